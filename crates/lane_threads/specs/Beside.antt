-- A lane beside others, before it runs and after.
use Rattle.std.specs.Prelude.{ℕ, List, Option, None, Some}
use Rattle.seat_desk.specs.declared.machine.Machine.{Ghosts}
use Rattle.plain_values.specs.declared.entry.Entry.{Entry}
use Rattle.seat_desk.specs.declared.desk.Pass.{Pass}
use Rattle.seat_desk.specs.declared.desk.Desk.{Desk}
use Rattle.lane_threads.specs.Lanes.{FactBefore, FactOfRun}
use Rattle.lane_threads.specs.LaneJobs.{MayRun, LaneEnds}

-- how many lanes stand beside
abbrev pub count_of : {X : Type 0} → Option X → ℕ
count_of None = 0
count_of (Some lane) = 1

module _ {M C R G Q : Type 0} {g : Ghosts M C R G Q} {X : Type 0} where
  -- the lane beside, where there is one, may run as the lane of the number k
  abbrev pub MayRunBeside : FactBefore X (Desk M C R G Q) (Pass M C R G Q g) → Q → ℕ → Option X
      → Type 0
  MayRunBeside may_run q k None = Unit {0}
  MayRunBeside may_run q k (Some lane) = MayRun may_run q k lane

module _ {M C R G Q : Type 0} {g : Ghosts M C R G Q} {X E : Type 0} where
  -- the lane beside, where there is one, ran as the lane of the number k to this end
  abbrev pub EndsBeside : FactOfRun X E (Pass M C R G Q g) → Q → List (Entry C R) → ℕ → Option X
      → Option E → Type 0
  EndsBeside has_run q history k None None = Unit {0}
  EndsBeside has_run q history k (Some lane) (Some end) = LaneEnds has_run q history k lane end
  EndsBeside has_run q history k None (Some end) = ⊥
  EndsBeside has_run q history k (Some lane) None = ⊥
