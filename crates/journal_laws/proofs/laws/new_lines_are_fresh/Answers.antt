use Rattle.journal_laws.proofs.Fresh.{fresh}
use Rattle.journal_laws.proofs.laws.new_lines_are_fresh.Goals as goal

pub returns : goal.returns
returns c = λ p j l h le. fresh p j l h le
