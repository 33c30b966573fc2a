-- What is said of a run whose worker keys share berths.
use Rattle.std.specs.Prelude.{◌≡◌, ◌*◌, ℕ, IfOk, List, Option, Result}
use Rattle.build_report.specs.declared.fault.RunFault.{RunFault}
use Rattle.core_contract.specs.Discipline.{Discipline}
use Rattle.exec_journal.specs.Entry.{Entry}
use Rattle.outside.specs.Told.{FloorTold}
use Rattle.outside.specs.declared.floor.FloorRead.{FloorRead}
use Rattle.progress_laws.specs.Few.{CallsAreFew}
use Rattle.run_plan.specs.declared.plan.Plan.{Plan}
use Rattle.run_tasks.specs.declared.task.Task.{Task}
use Rattle.placed_rules.specs.declared.pools.SharedPlan.{SharedPlan}
use Rattle.placed_rules.specs.declared.pools.SharedPool.{SharedPool}
use Rattle.placed_rules.specs.Kept.{SharedKept}
use Rattle.placed_rules.specs.Pools.{seats}
use Rattle.placed_rules.specs.Placed.{shared_discipline}
use Rattle.shared_tasks.specs.Course.{Made, SharedCourse}
use Rattle.shared_tasks.specs.declared.reading.SharedTask.{SharedTask}
use Rattle.shared_tasks.specs.declared.words.SharedOptions.{SharedOptions}
use Rattle.worker_run.specs.Ends.{HasCourseBy}
use Rattle.worker_run.specs.Headline.{IsNeverStuck, OnRun, TaskKeeps, newest_first}
use Rattle.worker_run.specs.Seen.{EndedTold, Left}

-- the pools in which the groups of a task's plan stand, and how many instances each group may have
pub record Sharing : Type 0 where
  pub pools : List SharedPool
  pub instances : ℕ

abbrev pub shared_by : Sharing → Plan → SharedPlan
shared_by s p = record { plan = p; pools = s.pools; instances = s.instances }

-- the rules of these pools
abbrev pub shared_rules : Sharing → Task → Discipline
shared_rules s t = shared_discipline (shared_by s t.plan)

-- what their orders keep
abbrev pub shared_kept : Sharing → Task → List Entry → Type 0
shared_kept s t = SharedKept (shared_by s t.plan)

-- the proxy lane and the tap lane of each berth of the pools
abbrev pub shared_lanes : Sharing → Task → ℕ
shared_lanes s t = 2 * seats (shared_by s t.plan)

-- beside noise, the journal has at most twelve entries for each attempt that the plan allows, one
-- for each action, and one for each lane
abbrev pub IsFewShared : Sharing → Task → Left → Type 0
IsFewShared s t x = CallsAreFew t.plan (shared_lanes s t) (newest_first x)

-- the reads led to a task whose core has these pools, or to a fault
abbrev pub SharedRead : Sharing → Option SharedOptions → List FloorRead → Made → Type 0
SharedRead s options reads made =
    SharedCourse options reads made × IfOk made (λ x. x.shared ≡ shared_by s x.task.plan)

-- What a run with these options keeps over this floor, but for what it puts.
pub record SharedKeeps (options : Option SharedOptions) (before : FloorTold) (end : EndedTold)
    : Type 0 where
  pub sharing : Sharing
  -- what was read led to the task that was run, with these pools, or to the fault
  pub course : HasCourseBy (SharedRead sharing options) (λ made. made.task) before end
  -- by the rules of these pools
  pub task : TaskKeeps (shared_rules sharing) (shared_kept sharing) before end
  pub awaited : OnRun end (IsNeverStuck (shared_rules sharing) (shared_lanes sharing))
  pub few : OnRun end (IsFewShared sharing)
