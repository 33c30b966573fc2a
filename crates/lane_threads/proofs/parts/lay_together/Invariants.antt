use Rattle.std.proofs.Common.{◌≤◌, ◌+◌, length, vec_len, vec_capacity}
use Rattle.lane_threads.proofs.Listed.{Laying}
use Rattle.lane_threads.proofs.parts.lay_together.Given as goal

abbrev pub invariant-loop-other : goal.invariant-loop-other
invariant-loop-other g l = record {
  laying : Laying l.fn.others.items l.rest.items l.all.items;
  room : vec_len l.all + length l.rest.items + 1 ≤ vec_capacity l.all;
}

abbrev pub decreases-loop-other : goal.decreases-loop-other
decreases-loop-other g l = length l.rest.items
