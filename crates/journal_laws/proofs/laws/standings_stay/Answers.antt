use Rattle.exec_journal.proofs.Quiet.{same_standings}
use Rattle.journal_laws.proofs.laws.standings_stay.Goals as goal

pub returns : goal.returns
returns c = λ p j k h. same_standings p j k h
