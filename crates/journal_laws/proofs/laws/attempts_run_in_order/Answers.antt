use Rattle.exec_journal.proofs.Begins.{attempts_in_order}
use Rattle.journal_laws.proofs.laws.attempts_run_in_order.Goals as goal

pub returns : goal.returns
returns c = λ p j h. attempts_in_order p j h
