use Rattle.std.proofs.Common.{◌≤◌, ◌+◌, length, vec_len, vec_capacity}
use Rattle.lane_threads.proofs.Enlisting.{Collecting}
use Rattle.lane_threads.proofs.crew.collect.Given as goal

abbrev pub invariant-loop-slot : goal.invariant-loop-slot
invariant-loop-slot g l =
    Collecting l.desk l.fn.root l.root l.fn.slots.items l.rest.items l.ends.items
    × (vec_len l.ends + length l.rest.items ≤ vec_capacity l.ends)

abbrev pub decreases-loop-slot : goal.decreases-loop-slot
decreases-loop-slot g l = length l.rest.items
