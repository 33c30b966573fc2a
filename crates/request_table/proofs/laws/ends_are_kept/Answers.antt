use Rattle.request_table.proofs.Kept.{ends_kept}
use Rattle.request_table.proofs.laws.ends_are_kept.Goals as goal

pub returns : goal.returns
returns c = λ p f j lane l how st. ends_kept j lane l how p f st
