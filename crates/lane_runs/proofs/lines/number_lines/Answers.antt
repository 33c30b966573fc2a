use Rattle.std.proofs.Common.{arith}
use Rattle.lane_runs.proofs.Matching.{numbers_one}
use Rattle.lane_runs.proofs.lines.number_lines.Goals as goal

pub loop-number-preserved : goal.loop-number-preserved
loop-number-preserved g c =
    let loop = c.loop-number in
    let next = numbers_one loop.lines.items loop.number
    (record { numbers = loop.invariant.numbers; halves = loop.invariant.halves }) in
    let more = c.push_reserved.ensures in
    let room = loop.invariant.room in
    record {
      numbers = rw more.items next.numbers;
      halves = rw more.items next.halves;
      room = omega (arith, room, more.len, more.capacity);
    }
