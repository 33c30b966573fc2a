use Rattle.std.proofs.Common.{◌≡◌, ◌≤◌, None, replicate, vec_len, vec_capacity}
use Rattle.core_machine.proofs.slots.empty_slots.Given as goal

-- as many slots as rounds so far, in each of which nothing lies, and room for all
abbrev pub invariant-loop-slot : goal.invariant-loop-slot
invariant-loop-slot g l =
    (l.slots.items ≡ replicate l._slot None) × (vec_len l.slots ≡ l._slot)
    × (l.fn.count ≤ vec_capacity l.slots)
