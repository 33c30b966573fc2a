-- What is asked of a lane and said of its run.
use Rattle.std.specs.Prelude.{◌≡◌, ℕ, []}
use Rattle.seat_desk.specs.declared.machine.Machine.{Ghosts}
use Rattle.seat_desk.specs.declared.desk.Pass.{Pass}
use Rattle.seat_desk.specs.Passes.{mine, seen}

-- what is asked of a lane before it runs, with its desk, the number of bells and its pass
abbrev pub FactBefore : Type 0 → Type 0 → Type 0 → Type 1
FactBefore L D P = L → D → ℕ → P → Type 0

-- what is said of a lane that has run, with its pass before, its end and its pass after
abbrev pub FactOfRun : Type 0 → Type 0 → Type 0 → Type 1
FactOfRun L E P = L → P → E → P → Type 0

module _ {M C R G Q : Type 0} {g : Ghosts M C R G Q} where
  -- no call was made with the pass, and it has seen nothing
  abbrev pub IsFresh : Pass M C R G Q g → Type 0
  IsFresh p = (mine p ≡ []) × (seen p ≡ [])
