use Rattle.cancel_rules.proofs.Followed.{answers}
use Rattle.cancel_rules.proofs.laws.answers_are_kept.Goals as goal

pub returns : goal.returns
returns c = λ p f j lane l x r s st consumes known. answers p f j lane l x r s st consumes known
