use Rattle.std.proofs.Common.{◌≡◌, ◌++◌, ◌+◌, ◌≤◌, Some, map, length, vec_len, vec_capacity}
use Rattle.lane_runs.specs.Layout.{AllThere}
use Rattle.lane_runs.proofs.layout.all_there.Given as goal

-- the places so far, and the slots that are left, in each of which one lies
abbrev pub invariant-loop-slot : goal.invariant-loop-slot
invariant-loop-slot g l = record {
  there : AllThere l.rest.items;
  so_far : map Some l.places.items ++ l.rest.items ≡ l.fn.slots.items;
  room : vec_len l.places + length l.rest.items ≤ vec_capacity l.places;
}

abbrev pub decreases-loop-slot : goal.decreases-loop-slot
decreases-loop-slot g l = length l.rest.items
