-- What a lane at the slot asks and ends with.
use Rattle.std.specs.Prelude.{◌≡◌, ℕ, ◌+◌, ◌%◌, ◌≤◌, List, [], ◌∷◌, length}
use Rattle.plain_values.specs.declared.entry.Entry.{Entry}
use Rattle.seat_desk.specs.History.{calls_by}
use Rattle.desk_machines.specs.declared.slot.Ask.{Ask}
use Rattle.desk_machines.specs.declared.slot.Answer.{Answer}
use Rattle.desk_machines.specs.declared.exchanging.SlotLane.{SlotLane}
use Rattle.desk_machines.specs.declared.exchanging.SlotLane.TheVariants.{Fills, Empties}
use Rattle.desk_machines.specs.declared.exchanging.SlotEnd.{SlotEnd}
use Rattle.desk_machines.specs.declared.exchanging.SlotEnd.TheVariants.{Filled, Emptied}

-- so many calls were made, which are `most` at most
abbrev pub HasMade : {X : Type 0} → ℕ → List X → ℕ → Type 0
HasMade most mine made = (length mine ≡ made) × (made ≤ most)

-- the lane has this number
abbrev pub HasNumber : ℕ → SlotLane → Type 0
HasNumber k (Fills lane) = lane.number ≡ k
HasNumber k (Empties lane) = lane.number ≡ k

-- the lane has the number k, so it fills if k is even, and empties if it is odd. It makes `most`
-- calls
abbrev pub IsNumbered : ℕ → ℕ → SlotLane → Type 0
IsNumbered most k (Fills lane) = (lane.number ≡ k) × (lane.count ≡ most) × (k % 2 ≡ 0)
IsNumbered most k (Empties lane) = (lane.number ≡ k) × (lane.count ≡ most) × (k % 2 ≡ 1)

-- so it is with these lanes, in order from the number k on
abbrev pub NumberedFrom : ℕ → ℕ → List SlotLane → Type 0
NumberedFrom most k [] = Unit {0}
NumberedFrom most k (lane ∷ lanes) = IsNumbered most k lane × NumberedFrom most (k + 1) lanes

-- the end is of the lane's kind, and is the number of its calls
abbrev pub HasEndedSo : {X : Type 0} → SlotLane → List X → SlotEnd → Type 0
HasEndedSo (Fills lane) mine (Filled made) = HasMade lane.count mine made
HasEndedSo (Empties lane) mine (Emptied made) = HasMade lane.count mine made
HasEndedSo (Fills lane) mine (Emptied made) = ⊥
HasEndedSo (Empties lane) mine (Filled made) = ⊥

-- the lane k, of `most` calls, ended so: the end is of its kind, and is the number of its calls
abbrev pub IsCount : {X : Type 0} → ℕ → ℕ → List X → SlotEnd → Type 0
IsCount most k mine (Filled made) = (k % 2 ≡ 0) × HasMade most mine made
IsCount most k mine (Emptied made) = (k % 2 ≡ 1) × HasMade most mine made

-- so did the lanes from the number k on, by what the history has of each
abbrev pub AreCounts : ℕ → ℕ → List (Entry Ask Answer) → List SlotEnd → Type 0
AreCounts most k h [] = Unit {0}
AreCounts most k h (end ∷ ends) = IsCount most k (calls_by k h) end × AreCounts most (k + 1) h ends
