-- What lies in the slot.
use Rattle.std.specs.Prelude.{◌≡◌, ℕ, ◌+◌, ◌≤◌, ◌⊎◌, List, [], ◌∷◌, Option, Some}
use Rattle.plain_values.specs.declared.entry.Entry.{Entry}
use Rattle.seat_desk.specs.declared.held.Held.{Held}
use Rattle.seat_desk.specs.History.{FactOfCall}

module _ {M C R : Type 0} where
  -- the history in the slot
  abbrev pub log_of : Held M C R → List (Entry C R)
  log_of y = y.history.items

  -- the machine lies in the one slot
  abbrev pub LiesAlone : M → List (Option (Held M C R)) → Type 0
  LiesAlone m slots = (y : Held M C R) × (slots ≡ Some y ∷ []) × (y.machine ≡ m)

  -- there is room for the call's entry and for what the machine owes after it: room for three more
  -- than it owes now, or the call was paid for
  abbrev pub HasRoom : (List (Entry C R) → ℕ) → FactOfCall C R → ℕ → C → Held M C R → Type 0
  HasRoom owes paid lane call y =
      (owes y.history.items + 3 ≤ y.history.room)
      ⊎ (paid y.history.items lane call)

  -- the machine has the basis q and stands for the history, which has room for what the machine
  -- owes
  abbrev pub IsGood : {Q : Type 0} → (M → Q) → (M → List (Entry C R) → Type 0)
      → (Q → List (Entry C R) → ℕ) → Q → Held M C R → Type 0
  IsGood {Q} basis stands owes q y =
      stands y.machine y.history.items
      × (owes q y.history.items ≤ y.history.room)
      × (basis y.machine ≡ q)
