use Rattle.exec_journal.proofs.Lines.{lines_named}
use Rattle.journal_laws.proofs.laws.lines_are_numbered.Goals as goal

pub returns : goal.returns
returns c = λ p j h. lines_named p j h
