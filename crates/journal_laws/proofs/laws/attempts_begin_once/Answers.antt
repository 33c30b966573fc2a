use Rattle.exec_journal.proofs.Begins.{begin_in_order}
use Rattle.journal_laws.proofs.laws.attempts_begin_once.Goals as goal

pub returns : goal.returns
returns c = λ p j h. begin_in_order p j h
