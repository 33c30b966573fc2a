use Rattle.cancel_rules.proofs.Followed.{ends_kept}
use Rattle.cancel_rules.proofs.laws.ends_are_kept.Goals as goal

pub returns : goal.returns
returns c = λ p f j lane l how st. ends_kept p f j lane l how st
