-- What a run says of its pacer.
use Rattle.std.specs.Prelude.{◌≡◌, ℕ, Option, length}
use Rattle.core_contract.specs.Duties.{proxy_lane}
use Rattle.lane_runs.specs.Paced.{HasPaced}
use Rattle.run_tasks.specs.declared.task.Task.{Task}
use Rattle.worker_run.specs.Headline.{OnRun, UnlessRun}
use Rattle.worker_run.specs.Histories.{history_of}
use Rattle.worker_run.specs.Seen.{EndedTold, Left}

-- the lane behind those of the task's berths
abbrev pub tick_lane_of : Task → ℕ
tick_lane_of t = proxy_lane (length t.speeches.items)

-- Where a run is told, that lane has made Ticks and nothing else, and as many were noted as the
-- pacer has counted ticks. Where none is, the pacer is as it was.
pub record PacesRun {W : Type 0} (told : W → ℕ) (before after : Option W) (end : EndedTold)
    : Type 0 where
  pub run : OnRun end (λ t x. HasPaced told (tick_lane_of t) before after (history_of x.journal))
  pub none : UnlessRun end.task (after ≡ before)
