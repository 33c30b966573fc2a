use Rattle.std.proofs.Common.{refl}
use Rattle.request_table.specs.Rows.{with_answer, with_reopened}
use Rattle.request_table.proofs.Kept.{others, taken_back}
use Rattle.request_table.proofs.laws.breaches_are_taken_back.Goals as goal

pub returns : goal.returns
returns c = λ p f j lane l x r st still. others p (with_reopened (with_answer f l x.number) l x.number) j _ (taken_back p f j l x.number st) still refl
