-- What a lane's thread gives back.
use Rattle.std.specs.Prelude.{◌≡◌, ℕ, ◌+◌, ◌%◌, ◌≤◌, List, [], ◌∷◌, ◌++◌, length}
use Rattle.plain_values.specs.declared.entry.Entry.{Entry}
use Rattle.seat_desk.specs.declared.machine.Machine.{Ghosts}
use Rattle.seat_desk.specs.declared.desk.Pass.{Pass}
use Rattle.seat_desk.specs.declared.desk.Desk.{Desk}
use Rattle.seat_desk.specs.History.{entry, calls_by, StartsWith}
use Rattle.seat_desk.specs.Passes.{IsPassOf, mine, basis, seen}
use Rattle.desk_machines.specs.declared.counter.Ask.{Ask}
use Rattle.desk_machines.specs.declared.counter.Ask.TheVariants.{Add}
use Rattle.desk_machines.specs.declared.counter.Answer.{Answer}
use Rattle.desk_machines.specs.declared.counter.Answer.TheVariants.{Sum}
use Rattle.desk_machines.specs.CounterSums.{added}

module _ {M C R G Q : Type 0} {g : Ghosts M C R G Q} where
  -- the pass is the desk's, has its lane still, and `made` calls more were made with it, which are
  -- `most` at most
  abbrev pub HasMade : ℕ → Desk M C R G Q → Pass M C R G Q g → Pass M C R G Q g → ℕ → Type 0
  HasMade most desk before after made = IsPassOf desk after × (after.lane ≡ before.lane)
      × (length (mine after) ≡ length (mine before) + made) × (made ≤ most)

module _ {C R : Type 0} where
  -- the history has so many calls of the lane, which are `most` at most
  abbrev pub HasCalls : ℕ → ℕ → List (Entry C R) → ℕ → Type 0
  HasCalls most lane history made = (length (calls_by lane history) ≡ made) × (made ≤ most)

module _ {M G : Type 0} {g : Ghosts M Ask Answer G ℕ} where
  -- a number was added: the sum is the one so far with it, modulo the machine's own number, at a
  -- point of the history that begins with all that the pass had seen; and the call is the pass's
  -- newest
  abbrev pub HasAdded : ℕ → Pass M Ask Answer G ℕ g → Pass M Ask Answer G ℕ g → ℕ → Type 0
  HasAdded n before after sum = ((h : List (Entry Ask Answer)) × StartsWith h (seen before)
      × (sum ≡ (added h + n) % basis before))
      × (mine after ≡ mine before ++ entry before.lane (Add n) (Sum sum) ∷ [])
