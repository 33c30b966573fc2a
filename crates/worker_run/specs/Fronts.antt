-- What is said of a run by what its front has read.
use Rattle.std.specs.Prelude.{◌≡◌, ◌<◌, ℕ, Bool, true, false, IfOk, List, Option, Some, None, Result, Ok, Err}
use Rattle.build_report.specs.declared.fault.RunFault.{RunFault}
use Rattle.build_report.specs.declared.fault.RunFault.TheVariants as fault
use Rattle.core_contract.specs.Discipline.{Discipline}
use Rattle.core_contract.specs.Duties.{proxy_lane}
use Rattle.exec_journal.specs.Entry.{Entry}
use Rattle.outside.specs.Causes.{Counts}
use Rattle.outside.specs.Told.{FloorTold, SameFloor}
use Rattle.outside.specs.declared.floor.FloorRead.{FloorRead}
use Rattle.run_loading.specs.Reads.{Reads, UnlessBefore}
use Rattle.run_plan.specs.Sound.{Sound}
use Rattle.run_tasks.specs.declared.task.Task.{Task}
use Rattle.worker_run.specs.Ends.{HasCourseBy}
use Rattle.worker_run.specs.Headline.{OnRun, TaskKeeps, newest_first}
use Rattle.worker_run.specs.Lanes.{FitsLanes}
use Rattle.worker_run.specs.Pacing.{PacesRun}
use Rattle.worker_run.specs.Seen.{EndedTold, nothing_left}
use Rattle.worker_run.specs.declared.front.Made.{Made}
use Rattle.worker_run.specs.declared.front.NoRun.{NoRun}
use Rattle.worker_run.specs.declared.front.NoRun.TheVariants as no

-- ---- what a front reads

-- the task that was made, with the basis of its core, or why there is none
abbrev pub read_by : {C B : Type 0} → (C → B) → Result (Made C) NoRun → Result (Task × B) NoRun
read_by basis (Ok made) = Ok (made.task, basis made.core)
read_by basis (Err why) = Err why

-- the fault of a reading, or none; that no strategy supports an action is none
abbrev pub fault_of : {T : Type 0} → Result T NoRun → Option RunFault
fault_of (Ok made) = None
fault_of (Err (no.Fault f)) = Some f
fault_of (Err (no.NoStrategy action)) = None

-- The floor's reads led to this result, or memory ran out before the lanes.
abbrev pub FrontLeads : {T : Type 0} → FloorTold → FloorTold → Result T NoRun
    → (List FloorRead → Result T NoRun → Type 0) → Type 0
FrontLeads before after result P =
    UnlessBefore (fault_of result) (Reads before after (λ reads. P reads result))

-- reading doesn't end with the sink's fault
abbrev pub IsOfReading : Option RunFault → Type 0
IsOfReading (Some fault.SinkFailed) = ⊥
IsOfReading end = Unit {0}

-- What the lanes ask of a task and its discipline, which has a lane of Ticks or not: it is sound and
-- fits its lanes, and that lane is the proxy lane of one more berth.
pub record IsReady (q : Discipline) (t : Task) (makes : Bool) : Type 0 where
  pub sound : Sound t.plan
  pub fits : FitsLanes q t
  pub ticks : q.ticks (proxy_lane q.served) ≡ makes
  pub beside : makes ≡ true → q.served < q.seats

-- ---- a course that has faults only

abbrev pub FaultsOnly : {X : Type 0} → (List FloorRead → Result X RunFault → Type 0)
    → List FloorRead → Result X NoRun → Type 0
FaultsOnly course reads (Ok made) = course reads (Ok made)
FaultsOnly course reads (Err (no.Fault f)) = course reads (Err f)
FaultsOnly course reads (Err (no.NoStrategy action)) = ⊥

-- ---- what led to the run

abbrev pub with_fault : {X : Type 0} → Result X RunFault → Result X NoRun
with_fault (Ok made) = Ok made
with_fault (Err f) = Err (no.Fault f)

-- the reads led to a task by this basis, or to a fault
abbrev pub HasReadBy : {B : Type 0} → (List FloorRead → Result (Task × B) NoRun → Type 0) → B
    → List FloorRead → Result (Task × B) RunFault → Type 0
HasReadBy leads basis reads made = leads reads (with_fault made) × IfOk made (λ x. x.1 ≡ basis)

-- ---- the pacer

-- With a lane of Ticks that lane made them, and as many were noted as the pacer has counted ticks.
-- Without one the pacer is as it was.
abbrev pub PacesWhere : {W : Type 0} → Bool → (W → ℕ) → W → W → EndedTold → Type 0
PacesWhere false told before after end = after ≡ before
PacesWhere true told before after end = PacesRun told (Some before) (Some after) end

-- so by a discipline
abbrev pub Paces : {W : Type 0} → Discipline → (W → ℕ) → W → W → EndedTold → Type 0
Paces q told before after end =
    PacesWhere (q.ticks (proxy_lane q.served)) told before after end

-- ---- all of it

-- What a run by this basis keeps over this floor, but for what it puts and for its pacer: what was read
-- led to the task with this basis, or to the fault; it was run by the basis's discipline; and its
-- journal has what the front promises.
pub record BasisKeeps {B : Type 0} (leads : List FloorRead → Result (Task × B) NoRun → Type 0)
    (rules : B → Discipline) (orders has : B → List Entry → Type 0) (before : FloorTold)
    (end : EndedTold) (basis : B) : Type 0 where
  pub course : HasCourseBy (HasReadBy leads basis) (λ made. made.0) before end
  pub task : TaskKeeps (λ t. rules basis) (λ t. orders basis) before end
  pub promised : OnRun end (λ t x. has basis (newest_first x))

-- No strategy supports this action, which is the first such. The list was read with its work; no
-- lane was started, nothing is left, and the status says so.
pub record IsRefused {X W : Type 0} (leads : List FloorRead → Result X NoRun → Type 0)
    (before : FloorTold) (pacer after : W) (end : EndedTold) (action : ℕ) : Type 0 where
  pub course : Reads before end.floor (λ reads. leads reads (Err (no.NoStrategy action)))
  pub status : end.status ≡ 8
  pub fault : end.fault ≡ None
  pub task : end.task ≡ None
  pub left : end.left ≡ nothing_left
  pub floor : SameFloor before end.floor
  pub counts : Counts before.faults end.floor.faults ⊥
  pub back : after ≡ pacer

-- What a run keeps over this floor and by this pacer, but for what it puts: there is a basis by which
-- it keeps it, or it was refused for this action.
abbrev pub EndsBy : {B W : Type 0} → (List FloorRead → Result (Task × B) NoRun → Type 0)
    → (B → Discipline) → (B → List Entry → Type 0) → (B → List Entry → Type 0) → FloorTold
    → (W → ℕ) → W → W → EndedTold → Option ℕ → Type 0
EndsBy {B} leads rules orders has before told pacer after end None =
    (basis : B) × BasisKeeps leads rules orders has before end basis
    × Paces (rules basis) told pacer after end
EndsBy leads rules orders has before told pacer after end (Some action) =
    IsRefused leads before pacer after end action
