-- What a run with all options leaves over objects that tell.
use Rattle.std.specs.Prelude.{◌≡◌, ℕ, List, ◌++◌, Option, Some, None, Err}
use Rattle.outside.specs.declared.floor.FloorRead.{FloorRead}
use Rattle.placed_berths.specs.Basis.{usable_placed}
use Rattle.placed_rules.specs.declared.placed.Placed.{Placed}
use Rattle.placed_rules.specs.Placed.{placed_discipline}
use Rattle.placed_runs.specs.Fronts.{placed_course}
use Rattle.real_run.specs.Whole.{HasReadBy, WholeTask}
use Rattle.worker_run.specs.Fronts as fronts
use Rattle.worker_run.specs.Seen.{EndedTold}
use Rattle.worker_run.specs.declared.front.NoRun.TheVariants as no

-- There is a basis, by whose rules it was, and to whose task, or to a fault, the reads led.
pub record WholeBasis (words : List (List ℕ)) (before : List FloorRead) (end : EndedTold) : Type 0 where
  pub basis : Placed
  pub read : HasReadBy (fronts.HasReadBy (placed_course words) basis) (λ made. made.0) before end
  pub objects : WholeTask (λ t. placed_discipline (usable_placed basis)) end

-- These are all reads since then, by which no strategy supports this action, the first such.
pub record BasisRefused (words : List (List ℕ)) (before : List FloorRead) (end : EndedTold)
    (action : ℕ) : Type 0 where
  pub reads : List FloorRead
  pub log : end.floor.log ≡ Some (before ++ reads)
  pub course : placed_course words reads (Err (no.NoStrategy action))

-- the one or the other, as it says
abbrev pub WholePlaced : List (List ℕ) → List FloorRead → EndedTold → Option ℕ → Type 0
WholePlaced words before end None = WholeBasis words before end
WholePlaced words before end (Some action) = BasisRefused words before end action
