use Rattle.cancel_rules.proofs.Followed.{sends_kept}
use Rattle.cancel_rules.proofs.laws.sends_are_kept.Goals as goal

pub returns : goal.returns
returns c = λ p f j lane l n a b t st new. sends_kept p f j lane l n a b t st new
