use Rattle.std.proofs.Common.{◌≡◌, ◌≤◌, length}
use Rattle.std.specs.Vec.{vec_capacity}
use Rattle.job_pool.proofs.lanes_of.Given as goal

-- One was made each time, and there is room for the others.
abbrev pub invariant-loop : goal.invariant-loop
invariant-loop g l = record {
  made : length l.lanes.items ≡ l.counter;
  room : l.fn.count ≤ vec_capacity l.lanes;
}
