use Rattle.cancel_rules.proofs.Followed.{cancels_kept}
use Rattle.cancel_rules.proofs.laws.cancels_are_kept.Goals as goal

pub returns : goal.returns
returns c = λ p f j lane l n st. cancels_kept j lane l n p f st
