-- How a run ends: what led to it, its fault, its report and its status.
use Rattle.std.specs.Prelude.{◌≡◌, ℕ, List, [], Bool, true, false, Option, Some, None, Result, Ok, Err, IfSome, reverse, ◌⊎◌}
use Rattle.build_report.specs.Faults.{fault_status}
use Rattle.build_report.specs.Report.{report_of, status_of}
use Rattle.build_report.specs.declared.fault.RunFault.{RunFault}
use Rattle.build_report.specs.declared.fault.RunFault.TheVariants as fault
use Rattle.build_report.specs.declared.fault.Stage.{Stage}
use Rattle.build_report.specs.declared.fault.Stage.TheVariants as stage
use Rattle.exec_journal.specs.Entry.{Entry}
use Rattle.outside.specs.Causes.{Rose}
use Rattle.outside.specs.Lists.{Gives}
use Rattle.outside.specs.Told.{FloorTold, SinkTold}
use Rattle.outside.specs.declared.answers.Io.TheVariants as io
use Rattle.outside.specs.declared.floor.FloorRead.{FloorRead}
use Rattle.run_loading.specs.Reads.{Reads}
use Rattle.run_tasks.specs.Course.{Course}
use Rattle.run_tasks.specs.declared.task.Task.{Task}
use Rattle.tool_words.specs.declared.options.Options.{Options}
use Rattle.worker_run.specs.Lanes.{HasMade, IsUnused, MakesUpTo}
use Rattle.worker_run.specs.Seen.{EndedTold, Left, nothing_left}
use Rattle.run_plan.specs.Limits.{most_actions, most_berths}

-- ---- the fault

-- with no lane started there is a fault of what was read, or memory ran out; once all was read,
-- memory ran out while the lanes were at work or behind them, or the report wasn't put
abbrev pub IsAfterReading : Option RunFault → Type 0
IsAfterReading None = Unit {0}
IsAfterReading (Some fault.SinkFailed) = Unit {0}
IsAfterReading (Some (fault.NoMemory stage.During)) = Unit {0}
IsAfterReading (Some (fault.NoMemory stage.After)) = Unit {0}
IsAfterReading (Some f) = ⊥

-- A run is told where there was no fault, where memory ran out while the lanes were at work or
-- behind them, and where the report wasn't put. With any other fault there was none.
abbrev pub TellsTask : Option RunFault → Option Task → Type 0
TellsTask None task = (t : Task) × (task ≡ Some t)
TellsTask (Some fault.SinkFailed) task = (t : Task) × (task ≡ Some t)
TellsTask (Some (fault.NoMemory stage.During)) task = (t : Task) × (task ≡ Some t)
TellsTask (Some (fault.NoMemory stage.After)) task = (t : Task) × (task ≡ Some t)
TellsTask (Some f) task = task ≡ None

-- the end of a put
abbrev pub IsPutEnd : Option RunFault → Type 0
IsPutEnd None = Unit {0}
IsPutEnd (Some f) = f ≡ fault.SinkFailed

-- the report wasn't put, or memory ran out for it
abbrev pub IsLate : RunFault → Type 0
IsLate fault.SinkFailed = Unit {0}
IsLate (fault.NoMemory when) = when ≡ stage.After
IsLate f = ⊥

-- the end of a report
abbrev pub IsReportEnd : Option RunFault → Type 0
IsReportEnd None = Unit {0}
IsReportEnd (Some f) = IsLate f

-- The end of a run of lanes of this task, by when they wanted memory.
abbrev pub IsRunEnd : Option Stage → Task → Option RunFault → Option Task → Type 0
IsRunEnd None t end task = IsReportEnd end × (task ≡ Some t)
IsRunEnd (Some stage.During) t end task =
    (end ≡ Some (fault.NoMemory stage.During)) × (task ≡ Some t)
IsRunEnd (Some stage.Before) t end task =
    (end ≡ Some (fault.NoMemory stage.Before)) × (task ≡ None)
IsRunEnd (Some stage.After) t end task = ⊥

-- How the lanes of this task end: it is told, but where memory ran out before them.
abbrev pub IsEndOf : Task → Option RunFault → Option Task → Type 0
IsEndOf t (Some (fault.NoMemory stage.Before)) task = task ≡ None
IsEndOf t end task = IsAfterReading end × (task ≡ Some t)

-- memory ran out while the lanes were at work
abbrev pub is_halted : Option RunFault → Bool
is_halted (Some (fault.NoMemory stage.During)) = true
is_halted _ = false

-- ---- what was made

-- All that the floor has made is handed back, however the run ended, and it is no more than a plan may
-- have.
pub record MadeAll (before : FloorTold) (end : EndedTold) : Type 0 where
  pub left : HasMade before end.floor end.left
  pub few : MakesUpTo most_berths most_actions before end.floor

-- What is left of no run: new berths and places where memory ran out before the lanes, and nothing
-- with any other fault.
abbrev pub LeavesNew : Option RunFault → Left → Type 0
LeavesNew (Some (fault.NoMemory stage.Before)) x = IsUnused x
LeavesNew end x = x ≡ nothing_left

-- ---- what led to it

-- What was read is a task, which was run; or the fault that ended the reading.
abbrev pub LeadsTo : {X : Type 0} → (X → Task) → Result X RunFault → Option RunFault → Option Task
    → Type 0
LeadsTo task_of (Err f) end task = (end ≡ Some f) × (task ≡ None)
LeadsTo task_of (Ok made) end task = IsAfterReading end × IfSome task (λ t. t ≡ task_of made)

-- reads that lead so
abbrev pub HasLed : {X : Type 0} → (List FloorRead → Result X RunFault → Type 0) → (X → Task)
    → Option RunFault → Option Task → List FloorRead → Type 0
HasLed {X} course task_of end task reads =
    (made : Result X RunFault) × course reads made × LeadsTo task_of made end task

-- Nothing is said where memory ran out before the lanes.
abbrev pub UnlessEarly : Option RunFault → Type 0 → Type 0
UnlessEarly (Some (fault.NoMemory stage.Before)) P = Unit {0}
UnlessEarly end P = P

-- The floor's reads, in this order of work, led to the task that was run, or to the fault.
abbrev pub HasCourseBy : {X : Type 0} → (List FloorRead → Result X RunFault → Type 0) → (X → Task)
    → FloorTold → EndedTold → Type 0
HasCourseBy course task_of before end = UnlessEarly end.fault
    (Reads before end.floor (HasLed course task_of end.fault end.task))

-- so by the words' options
abbrev pub HasCourse : Option Options → FloorTold → EndedTold → Type 0
HasCourse options before end = HasCourseBy (Course options) (λ made. made.0) before end

-- ---- the report and the status

-- the report of a task by its journal
abbrev pub report_by : Option Task → List Entry → List ℕ
report_by None journal = []
report_by (Some t) journal = report_of t.plan (reverse journal) t.short

-- These bytes are put if that can be done: whole, or a front of them where the sink failed, or none where memory ran out.
abbrev pub MayPut : List ℕ → SinkTold → SinkTold → Type 0
MayPut report old new = Gives io.Done report old.contents new.contents
    ⊎ ((Gives io.Failed report old.contents new.contents × Rose old.faults new.faults)
    ⊎ (new.contents ≡ old.contents))

-- These bytes are put whole with no fault, and a front of them where the sink failed. Where lanes halted, they are put if that
-- can be done. With any other fault nothing is put.
abbrev pub Puts : Option RunFault → List ℕ → SinkTold → SinkTold → Type 0
Puts None report old new = Gives io.Done report old.contents new.contents
Puts (Some fault.SinkFailed) report old new = Gives io.Failed report old.contents new.contents
Puts (Some (fault.NoMemory stage.During)) report old new = MayPut report old new
Puts (Some f) report old new = new.contents ≡ old.contents

abbrev pub Reports : EndedTold → SinkTold → SinkTold → Type 0
Reports end old new = Puts end.fault (report_by end.task end.left.journal) old new

-- With no fault 0 where every action has success, and else 1; with a fault that of the fault.
abbrev pub status_by : Option RunFault → Option Task → List Entry → ℕ
status_by None None journal = 0
status_by None (Some t) journal = status_of t.plan (reverse journal)
status_by (Some f) task journal = fault_status f
