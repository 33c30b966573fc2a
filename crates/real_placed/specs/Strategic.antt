-- What a run by strategies leaves over objects that tell.
use Rattle.std.specs.Prelude.{◌≡◌, ℕ, List, ◌++◌, Option, Some, None, Err}
use Rattle.outside.specs.declared.floor.FloorRead.{FloorRead}
use Rattle.real_run.specs.Whole.{HasReadBy, WholeTask}
use Rattle.placed_runs.specs.StrategicHeadline.{SpawnRead, spawn_rules}
use Rattle.spawn_strategies.specs.declared.types.SpawnOptions.{SpawnOptions}
use Rattle.spawn_tasks.specs.Course.{SpawnCourse}
use Rattle.spawn_tasks.specs.declared.faults.NoSpawn.TheVariants as no
use Rattle.worker_run.specs.Seen.{EndedTold}

-- There is a delay, by whose rules it was, and to whose task, or to a fault, the reads led.
pub record WholeSpawn (options : Option SpawnOptions) (before : List FloorRead) (end : EndedTold)
    : Type 0 where
  pub delay : ℕ
  pub read : HasReadBy (SpawnRead delay options) (λ made. made.task) before end
  pub objects : WholeTask (spawn_rules delay) end

-- These are all reads since then, by which no strategy supports this action, the first such.
pub record ReadRefused (options : Option SpawnOptions) (before : List FloorRead) (end : EndedTold)
    (action : ℕ) : Type 0 where
  pub reads : List FloorRead
  pub log : end.floor.log ≡ Some (before ++ reads)
  pub course : SpawnCourse options reads (Err (no.NoStrategy action))

-- the one or the other, as it says
abbrev pub WholeStrategic : Option SpawnOptions → List FloorRead → EndedTold → Option ℕ → Type 0
WholeStrategic options before end None = WholeSpawn options before end
WholeStrategic options before end (Some action) = ReadRefused options before end action
