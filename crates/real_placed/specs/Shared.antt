-- What a run over objects that tell leaves whose worker keys share berths.
use Rattle.std.specs.Prelude.{List, Option}
use Rattle.outside.specs.declared.floor.FloorRead.{FloorRead}
use Rattle.real_run.specs.Whole.{HasReadBy, WholeTask}
use Rattle.placed_runs.specs.SharedHeadline.{SharedRead, Sharing, shared_rules}
use Rattle.shared_tasks.specs.declared.words.SharedOptions.{SharedOptions}
use Rattle.worker_run.specs.Seen.{EndedTold}

-- There are pools, by whose rules it was, and to whose task, or to a fault, the reads led.
pub record WholeShared (options : Option SharedOptions) (before : List FloorRead) (end : EndedTold)
    : Type 0 where
  pub sharing : Sharing
  pub read : HasReadBy (SharedRead sharing options) (λ made. made.task) before end
  pub objects : WholeTask (shared_rules sharing) end
