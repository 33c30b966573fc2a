use Rattle.journal_laws.proofs.Races.{race}
use Rattle.journal_laws.proofs.laws.branches_win_once.Goals as goal

pub returns : goal.returns
returns c = λ p j h. race p j h
