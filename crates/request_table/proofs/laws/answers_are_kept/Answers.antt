use Rattle.request_table.proofs.Kept.{answers}
use Rattle.request_table.proofs.laws.answers_are_kept.Goals as goal

pub returns : goal.returns
returns c = λ p f j lane l x r s st consumes known. answers j lane l x r s consumes p f st known
