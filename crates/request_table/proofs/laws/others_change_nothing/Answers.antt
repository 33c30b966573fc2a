use Rattle.request_table.proofs.Kept.{others}
use Rattle.request_table.proofs.laws.others_change_nothing.Goals as goal

pub returns : goal.returns
returns c = λ p f j e st still calm. others p f j e st still calm
