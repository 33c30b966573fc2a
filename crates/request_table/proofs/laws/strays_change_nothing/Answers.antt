use Rattle.std.proofs.Common.{refl}
use Rattle.request_table.specs.Rows.{with_answer}
use Rattle.request_table.proofs.Kept.{others, nothing_found}
use Rattle.request_table.proofs.laws.strays_change_nothing.Goals as goal

pub returns : goal.returns
returns c = λ p f j lane l x r st still none. others p (with_answer f l x.number) j _ (nothing_found p f j l x.number st none) still refl
