use Rattle.std.proofs.Common.{◌<◌, arith}
use Rattle.std.specs.Int.{w128, trailing_zeros}
use Rattle.std.proofs.lemmas.Nat.Bits.{bit_at-trailing_zeros}
use Rattle.work_queue.proofs.Naming.{one_found}
use Rattle.work_queue.proofs.signs.one_of.Goals as goal

pub returns-else-lanes-eq0 : goal.returns-else-lanes-eq0
returns-else-lanes-eq0 c =
    let some = c.if-lanes-eq0.false in
    let above : 0 < c.args.lanes = omega (arith, some) in
    let z = bit_at-trailing_zeros w128 c.args.lanes above c.ranges.lanes.fits in
    one_found c.args.lanes (trailing_zeros w128 c.args.lanes) z.0 z.1
