-- What is said of a run by strategies.
use Rattle.std.specs.Prelude.{◌≡◌, ◌*◌, ◌+◌, ℕ, zero, suc, IfOk, List, Option, Some, None, Result, Ok, Err}
use Rattle.build_report.specs.declared.fault.RunFault.{RunFault}
use Rattle.core_contract.specs.Discipline.{Discipline}
use Rattle.core_contract.specs.Disciplines.{own_discipline}
use Rattle.placed_rules.specs.Kept.{DelayedKept}
use Rattle.placed_rules.specs.Placed.{delayed_discipline}
use Rattle.placed_rules.specs.Own.{delayed_seats}
use Rattle.exec_journal.specs.Entry.{Entry}
use Rattle.exec_journal.specs.Kept.{Kept}
use Rattle.outside.specs.Causes.{Counts}
use Rattle.outside.specs.Told.{FloorTold, SameFloor}
use Rattle.outside.specs.declared.floor.FloorRead.{FloorRead}
use Rattle.run_loading.specs.Reads.{Reads}
use Rattle.progress_laws.specs.Few.{CallsAreFew, DelayedCallsAreFew}
use Rattle.run_plan.specs.Groups.{berths}
use Rattle.run_plan.specs.declared.plan.Plan.{Plan}
use Rattle.run_tasks.specs.declared.task.Task.{Task}
use Rattle.spawn_strategies.specs.declared.types.SpawnOptions.{SpawnOptions}
use Rattle.spawn_tasks.specs.Course.{SpawnCourse}
use Rattle.spawn_tasks.specs.declared.faults.NoSpawn.{NoSpawn}
use Rattle.spawn_tasks.specs.declared.faults.NoSpawn.TheVariants as no
use Rattle.spawn_tasks.specs.declared.tasks.SpawnTask.{SpawnTask}
use Rattle.worker_run.specs.Ends.{HasCourseBy}
use Rattle.worker_run.specs.Headline.{IsNeverStuck, OnRun, TaskKeeps, newest_first}
use Rattle.worker_run.specs.Pacing.{PacesRun}
use Rattle.worker_run.specs.Seen.{EndedTold, Left, nothing_left}

-- ---- by whose rule

-- the rules of berths that groups have of their own; with a delay, where a local branch waits for
-- so many Ticks
abbrev pub discipline_by : ℕ → Plan → Discipline
discipline_by zero p = own_discipline p
discipline_by (suc n) p = delayed_discipline p (suc n)

-- What they keep: each order was due. With a delay Ticks end by themselves: for each action that
-- uses both branches at most so many are noted.
abbrev pub kept_by : ℕ → Plan → List Entry → Type 0
kept_by zero p = Kept p
kept_by (suc n) p = DelayedKept p (suc n)

-- those of a task's plan
abbrev pub spawn_rules : ℕ → Task → Discipline
spawn_rules delay t = discipline_by delay t.plan

abbrev pub spawn_kept : ℕ → Task → List Entry → Type 0
spawn_kept delay t = kept_by delay t.plan

-- ---- progress

-- the proxy lane and the tap lane of each berth of the plan, and with a delay the lane of Ticks
abbrev pub spawn_lanes : ℕ → Task → ℕ
spawn_lanes zero t = 2 * berths t.plan
spawn_lanes (suc n) t = 2 * berths t.plan + 1

-- beside noise, the journal has at most twelve entries for each attempt that the plan allows, one
-- for each action and for each lane, and with a delay its Ticks for each action that uses both
-- branches
abbrev pub few_by : ℕ → Plan → List Entry → Type 0
few_by zero p j = CallsAreFew p (2 * berths p) j
few_by (suc n) p j = DelayedCallsAreFew p (suc n) (2 * delayed_seats p) j

abbrev pub IsFewSpawned : ℕ → Task → Left → Type 0
IsFewSpawned delay t x = few_by delay t.plan (newest_first x)

-- ---- what was read

abbrev pub with_fault : Result SpawnTask RunFault → Result SpawnTask NoSpawn
with_fault (Ok made) = Ok made
with_fault (Err f) = Err (no.Fault f)

-- the reads led to a task with this delay, or to a fault
abbrev pub SpawnRead : ℕ → Option SpawnOptions → List FloorRead → Result SpawnTask RunFault → Type 0
SpawnRead delay options reads made =
    SpawnCourse options reads (with_fault made) × IfOk made (λ x. x.delay ≡ delay)

-- ---- the pacer

-- With a delay the lane behind those of the berths made Ticks, and as many were noted as the pacer
-- has counted ticks. Without one the pacer is as it was.
abbrev pub SpawnPaces : {W : Type 0} → (W → ℕ) → ℕ → W → W → EndedTold → Type 0
SpawnPaces told zero before after end = after ≡ before
SpawnPaces told (suc n) before after end = PacesRun told (Some before) (Some after) end

-- ---- all of it

-- What a run with these options keeps over this floor and by this pacer, but for what it puts.
pub record SpawnKeeps {W : Type 0} (options : Option SpawnOptions) (before : FloorTold)
    (told : W → ℕ) (pacer after : W) (end : EndedTold) : Type 0 where
  pub delay : ℕ
  -- what was read led to the task that was run, with this delay, or to the fault
  pub course : HasCourseBy (SpawnRead delay options) (λ made. made.task) before end
  -- by the rules of this delay
  pub task : TaskKeeps (spawn_rules delay) (spawn_kept delay) before end
  pub awaited : OnRun end (IsNeverStuck (spawn_rules delay) (spawn_lanes delay))
  pub few : OnRun end (IsFewSpawned delay)
  pub paces : SpawnPaces told delay pacer after end

-- No strategy supports this action, which is the first such. The list was read with its work; no
-- lane was started, nothing is left, and the status says so.
pub record IsRefused {W : Type 0} (options : Option SpawnOptions) (before : FloorTold)
    (pacer after : W) (end : EndedTold) (action : ℕ) : Type 0 where
  pub course : Reads before end.floor
      (λ reads. SpawnCourse options reads (Err (no.NoStrategy action)))
  pub status : end.status ≡ 8
  pub fault : end.fault ≡ None
  pub task : end.task ≡ None
  pub left : end.left ≡ nothing_left
  pub floor : SameFloor before end.floor
  pub counts : Counts before.faults end.floor.faults ⊥
  pub back : after ≡ pacer

abbrev pub StrategicKeeps : {W : Type 0} → Option SpawnOptions → FloorTold → (W → ℕ) → W → W
    → EndedTold → Option ℕ → Type 0
StrategicKeeps options before told pacer after end None =
    SpawnKeeps options before told pacer after end
StrategicKeeps options before told pacer after end (Some action) =
    IsRefused options before pacer after end action
