use Rattle.std.proofs.Common.{arith}
use Rattle.placed_berths.proofs.lines.lines_held.Goals as goal

pub is_held-requires-clause-lane : goal.is_held-requires-clause-lane
is_held-requires-clause-lane c =
    let lanes = c.requires.lanes in let below = c.loop-berth-test.true in omega arith

pub is_held-requires-clause-reads : goal.is_held-requires-clause-reads
is_held-requires-clause-reads c = c.requires.each c.loop-berth.berth c.loop-berth-test.true
