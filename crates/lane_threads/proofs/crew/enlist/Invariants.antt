use Rattle.std.proofs.Common.{◌≤◌, ◌+◌, length, vec_len, vec_capacity}
use Rattle.seat_desk.specs.Passes.{root_basis}
use Rattle.lane_threads.proofs.Enlisting.{Enlisting}
use Rattle.lane_threads.proofs.crew.enlist.Given as goal

abbrev pub invariant-loop-lane : goal.invariant-loop-lane
invariant-loop-lane g l =
    Enlisting l.desk (root_basis l.fn.root) l.fn.lanes.items l.rest.items l.slots.items l.root
    × (vec_len l.slots + length l.rest.items ≤ vec_capacity l.slots)
    × (length l.fn.lanes.items ≤ 256)

abbrev pub decreases-loop-lane : goal.decreases-loop-lane
decreases-loop-lane g l = length l.rest.items
