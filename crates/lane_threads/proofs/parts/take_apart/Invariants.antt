use Rattle.std.proofs.Common.{◌≤◌, ◌+◌, length, vec_len, vec_capacity}
use Rattle.lane_threads.proofs.Listed.{Taking}
use Rattle.lane_threads.proofs.parts.take_apart.Given as goal

abbrev pub invariant-loop-one : goal.invariant-loop-one
invariant-loop-one g l = record {
  taking : Taking l.fn.all.items l.rest.items l.others.items;
  room : vec_len l.others + length l.rest.items ≤ vec_capacity l.others;
}

abbrev pub decreases-loop-one : goal.decreases-loop-one
decreases-loop-one g l = length l.rest.items
