use Rattle.std.proofs.Common.{◌≤◌, ◌+◌, length, vec_len, vec_capacity}
use Rattle.lane_threads.proofs.Enlisting.{Dismissing}
use Rattle.lane_threads.proofs.crew.dismiss.Given as goal

abbrev pub invariant-loop-slot : goal.invariant-loop-slot
invariant-loop-slot g l =
    Dismissing l.desk l.fn.root l.root l.fn.slots.items l.rest.items l.lanes.items
    × (vec_len l.lanes + length l.rest.items ≤ vec_capacity l.lanes)

abbrev pub decreases-loop-slot : goal.decreases-loop-slot
decreases-loop-slot g l = length l.rest.items
