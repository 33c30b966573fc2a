use Rattle.std.proofs.Common.{◌≡◌, ◌≤◌, ◌+◌, ◌++◌, Some, map, length, vec_len, vec_capacity}
use Rattle.core_machine.proofs.slots.full_slots.Given as goal

-- the things so far lie there, and there is room for those that are left
abbrev pub invariant-loop-thing : goal.invariant-loop-thing
invariant-loop-thing g l =
    (l.slots.items ++ map Some l.rest.items ≡ map Some l.fn.things.items)
    × (vec_len l.slots + length l.rest.items ≤ vec_capacity l.slots)

abbrev pub decreases-loop-thing : goal.decreases-loop-thing
decreases-loop-thing g l = length l.rest.items
