use Rattle.cancel_rules.proofs.Followed.{grants_kept}
use Rattle.cancel_rules.proofs.laws.grants_are_kept.Goals as goal

pub returns : goal.returns
returns c = λ p f j lane a b t found st. grants_kept p f j lane a b t found st
