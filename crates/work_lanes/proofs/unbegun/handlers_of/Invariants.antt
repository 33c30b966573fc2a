use Rattle.std.proofs.Common.{◌≡◌, ◌≤◌, ◌+◌, ◌++◌, length, vec_len, vec_capacity}
use Rattle.work_lanes.specs.Crews.{handlers_held}
use Rattle.work_lanes.proofs.unbegun.handlers_of.Given as goal

-- Those so far, and those of the lanes to come.
abbrev pub invariant-loop-lane : goal.invariant-loop-lane
invariant-loop-lane g l = record {
  room : vec_len l.handlers + length l.rest.items ≤ vec_capacity l.handlers;
  all : l.handlers.items ++ handlers_held l.rest.items ≡ handlers_held l.fn.lanes.items;
}

abbrev pub decreases-loop-lane : goal.decreases-loop-lane
decreases-loop-lane g l = length l.rest.items
