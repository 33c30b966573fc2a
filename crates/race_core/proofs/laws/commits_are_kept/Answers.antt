use Rattle.race_core.proofs.Kept.{commits}
use Rattle.race_core.proofs.laws.commits_are_kept.Goals as goal

pub returns : goal.returns
returns c = λ p rows j lane a b how r s won. commits p rows j lane a b how r s won
