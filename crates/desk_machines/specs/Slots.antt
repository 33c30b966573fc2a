-- A slot that is filled and emptied in turn.
use Rattle.std.specs.Prelude.{◌≡◌, Bool, true, false, List, [], ◌∷◌}
use Rattle.std.proofs.Common.{refl}
use Rattle.plain_values.specs.declared.entry.Entry.{Entry}
use Rattle.desk_machines.specs.declared.slot.Ask.{Ask}
use Rattle.desk_machines.specs.declared.slot.Ask.TheVariants.{Fill, Empty}
use Rattle.desk_machines.specs.declared.slot.Answer.{Answer}
use Rattle.desk_machines.specs.declared.slot.Answer.TheVariants.{Done, Idle}

abbrev pub is_done : Answer → Bool
is_done Done = true
is_done Idle = false

abbrev pub is_idle : Answer → Bool
is_idle Done = false
is_idle Idle = true

-- the call fills the slot
abbrev pub fills : Ask → Bool
fills Fill = true
fills Empty = false

abbrev pub answer_to : Bool → Ask → Answer
answer_to true Fill = Idle
answer_to false Fill = Done
answer_to true Empty = Done
answer_to false Empty = Idle

-- the slot is full after these calls
abbrev pub full_after : Bool → List (Entry Ask Answer) → Bool
full_after full [] = full
full_after full (e ∷ es) = full_after (fills e.call) es

pub idle_not_kept : (a : Answer) → is_idle a ≡ true → is_done a ≡ false
idle_not_kept Idle h = refl
idle_not_kept Done h = absurd (cc)
