use Rattle.std.proofs.Common.{◌≡◌, ◌≤◌, ◌+◌, ◌++◌, length, vec_len, vec_capacity}
use Rattle.lane_runs.specs.Seats.{berths_in}
use Rattle.lane_runs.proofs.lanes.berths_of.Given as goal

-- The berths so far are there, and there is room for those that are left.
abbrev pub invariant-loop-lane : goal.invariant-loop-lane
invariant-loop-lane g l = record {
  so_far : l.berths.items ++ berths_in l.rest.items
      ≡ l.initial.berths.items ++ berths_in l.fn.lanes.items;
  room : vec_len l.berths + length (berths_in l.rest.items) ≤ vec_capacity l.berths;
}

abbrev pub decreases-loop-lane : goal.decreases-loop-lane
decreases-loop-lane g l = length l.rest.items
