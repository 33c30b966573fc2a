-- From what was read to how the run ends.
use Rattle.std.proofs.Common.{◌≡◌, ℕ, Bool, true, false, List, [], ◌∷◌, Option, Some, None, Result, Ok, Err, IfSome, refl, subst, sym}
use Rattle.action_list.specs.Lists.{list_of}
use Rattle.list_actions.specs.declared.faults.ListFault.{ListFault}
use Rattle.list_actions.specs.declared.types.ActionList.{ActionList}
use Rattle.build_report.specs.declared.fault.RunFault.{RunFault}
use Rattle.build_report.specs.declared.fault.RunFault.TheVariants as fault
use Rattle.build_report.specs.declared.fault.Stage.{Stage}
use Rattle.build_report.specs.declared.fault.Stage.TheVariants as stage
use Rattle.generated_list.specs.Generated.{generated_text}
use Rattle.outside.specs.Lists.{Adds}
use Rattle.outside.specs.Told.{FloorTold}
use Rattle.outside.specs.declared.answers.Read.{Read}
use Rattle.outside.specs.declared.answers.Read.TheVariants as read
use Rattle.outside.specs.declared.floor.FloorRead.{FloorRead}
use Rattle.run_loading.specs.Course.{AfterList, BytesRead}
use Rattle.run_loading.specs.Reads.{IsFloorFailed, Reads}
use Rattle.run_tasks.specs.Course.{Course, ListRead, OptionsRead, TaskRead}
use Rattle.run_tasks.specs.declared.task.Task.{Task}
use Rattle.tool_words.specs.declared.options.Options.{Options}
use Rattle.worker_run.specs.Ends.{HasLed, IsAfterReading, IsEndOf, IsReportEnd, IsRunEnd, LeavesNew, TellsTask, UnlessEarly}
use Rattle.worker_run.specs.Headline.{UnlessRun}
use Rattle.worker_run.specs.Lanes.{IsUnused, WhereLost}
use Rattle.worker_run.specs.Seen.{EndedTold, Left, nothing_left}
use Rattle.run_plan.specs.Limits.{most_local_berths}

-- ---- a task was run

report_ended : (t : Task) (f : Option RunFault) (o : Option Task) → IsReportEnd f → o ≡ Some t
    → IsEndOf t f o
report_ended t None o e is = (tt, is)
report_ended t (Some fault.SinkFailed) o e is = (tt, is)
report_ended t (Some (fault.NoMemory stage.After)) o e is = (tt, is)
report_ended t (Some (fault.NoMemory stage.Before)) o e is = absurd (cc)
report_ended t (Some (fault.NoMemory stage.During)) o e is = absurd (cc)
report_ended t _ o e is = absurd e

pub task_ended : (when : Option Stage) (t : Task) (f : Option RunFault) (o : Option Task)
    → IsRunEnd when t f o → IsEndOf t f o
task_ended None t f o kind = report_ended t f o kind.0 kind.1
task_ended (Some stage.During) t f o kind =
    subst (λ (f : Option RunFault). IsEndOf t f o) (sym kind.0) (tt, kind.1)
task_ended (Some stage.Before) t f o kind =
    subst (λ (f : Option RunFault). IsEndOf t f o) (sym kind.0) kind.1
task_ended (Some stage.After) t f o kind = absurd kind

pub task_told : (t : Task) (f : Option RunFault) (o : Option Task) → IsEndOf t f o
    → TellsTask f o
task_told t None o e = (t, e.1)
task_told t (Some fault.SinkFailed) o e = (t, e.1)
task_told t (Some (fault.NoMemory stage.Before)) o e = e
task_told t (Some (fault.NoMemory stage.During)) o e = (t, e.1)
task_told t (Some (fault.NoMemory stage.After)) o e = (t, e.1)
task_told t _ o e = absurd e.0

-- after the reading the floor doesn't fail
pub task_floor : (t : Task) (f : Option RunFault) (o : Option Task) → IsEndOf t f o
    → IsFloorFailed f → ⊥
task_floor t (Some (fault.FloorFailed at)) o e failed = e.0
task_floor t _ o e failed = failed

module _ {X : Type 0} (course : List FloorRead → Result X RunFault → Type 0) (task_of : X → Task)
    (before mid : FloorTold) (made : X) (end : EndedTold)
    (led : Reads before mid (λ reads. course reads (Ok made)))
    (log : end.floor.log ≡ mid.log) where
  leads : (f : Option RunFault) → IsAfterReading f → end.task ≡ Some (task_of made)
      → Reads before end.floor (HasLed course task_of f end.task)
  leads f after is = (
    led.0,
    subst (λ (l : Option (List FloorRead)). Adds led.0 before.log l)
        (sym log) led.1,
    led.2,
    (
      Ok made,
      led.3,
      (after, subst (λ (o : Option Task). IfSome o (λ t. t ≡ task_of made)) (sym is) refl),
    ),
  )

  pub task_course : (f : Option RunFault) → IsEndOf (task_of made) f end.task
      → UnlessEarly f (Reads before end.floor (HasLed course task_of f end.task))
  task_course (Some (fault.NoMemory stage.Before)) e = tt
  task_course f e = leads f e.0 e.1

pub task_nothing : (when : Option Stage) (t : Task) (f : Option RunFault) (o : Option Task)
    (x y : Left) → IsRunEnd when t f o → WhereLost when (IsUnused x) → y ≡ x
    → UnlessRun o (LeavesNew f y)
task_nothing None t f o x y kind lost is =
    subst (λ (o : Option Task). UnlessRun o (LeavesNew f y)) (sym kind.1) tt
task_nothing (Some stage.During) t f o x y kind lost is =
    subst (λ (o : Option Task). UnlessRun o (LeavesNew f y)) (sym kind.1) tt
task_nothing (Some stage.Before) t f o x y kind lost is =
    subst (λ (o : Option Task). UnlessRun o (LeavesNew f y)) (sym kind.1)
    (subst (λ (f : Option RunFault). LeavesNew f y) (sym kind.0)
    (subst (λ (z : Left). IsUnused z) (sym is) lost))
task_nothing (Some stage.After) t f o x y kind lost is = absurd kind

pub nothing_unused : IsUnused nothing_left
nothing_unused = record {
  berths = record { as_many = refl; each = λ w b e. absurd (cc) };
  places = record { as_many = refl; each = λ a p e. absurd (cc) };
  journal = refl;
  lines = refl;
  unsaid = refl;
  halted = refl;
}

-- where the reads ended the run
pub fault_nothing : (f : RunFault) → LeavesNew (Some f) nothing_left
fault_nothing (fault.NoMemory stage.Before) = nothing_unused
fault_nothing (fault.NoMemory stage.During) = refl
fault_nothing (fault.NoMemory stage.After) = refl
fault_nothing fault.SinkFailed = refl
fault_nothing fault.Words = refl
fault_nothing (fault.List x) = refl
fault_nothing (fault.Flags a x) = refl
fault_nothing (fault.Absent at) = refl
fault_nothing (fault.FloorFailed at) = refl

-- ---- reads don't end in the sink's fault

bytes_silent : (o : Options) (short : Bool) (r : Result ActionList ListFault)
    (reads : List FloorRead) → BytesRead (TaskRead o short) r reads (Err fault.SinkFailed) → ⊥
bytes_silent o short (Err f) reads h = absurd (let e = h.1 in cc)
bytes_silent o short (Ok list) reads h = absurd h

after_silent : (o : Options) (path : List ℕ) (answer : Read) (reads : List FloorRead)
    → AfterList (TaskRead o false) most_local_berths path answer reads (Err fault.SinkFailed) → ⊥
after_silent o path read.Absent reads h = absurd (let e = h.1 in cc)
after_silent o path read.Failed reads h = absurd (let e = h.1 in cc)
after_silent o path (read.Found bytes) reads h =
    bytes_silent o false (list_of most_local_berths bytes) reads h

list_silent : (o : Options) (path : List ℕ) (reads : List FloorRead)
    → ListRead o path reads (Err fault.SinkFailed) → ⊥
list_silent o path [] h = absurd h
list_silent o path (first ∷ rest) h = after_silent o path first.answer rest h.1

options_silent : (o : Options) (path : Option (List ℕ)) (count : Option ℕ)
    (reads : List FloorRead) → OptionsRead o path count reads (Err fault.SinkFailed) → ⊥
options_silent o (Some path) None reads h = list_silent o path reads h
options_silent o None (Some n) reads h =
    bytes_silent o true (list_of most_local_berths (generated_text n)) reads h
options_silent o None None reads h = absurd h
options_silent o (Some path) (Some n) reads h = absurd h

pub course_silent : (options : Option Options) (reads : List FloorRead)
    → Course options reads (Err fault.SinkFailed) → ⊥
course_silent None reads h = absurd (let e = h.1 in cc)
course_silent (Some o) reads h = options_silent o o.list o.generate reads h

-- what holds where no lane was started holds where no run is told
pub unless_lost : (when : Option Stage) (t : Task) (f : Option RunFault) (o : Option Task)
    (P : Type 0) → IsRunEnd when t f o → WhereLost when P → UnlessRun o P
unless_lost None t f o P kind lost = subst (λ (o : Option Task). UnlessRun o P) (sym kind.1) tt
unless_lost (Some stage.During) t f o P kind lost =
    subst (λ (o : Option Task). UnlessRun o P) (sym kind.1) tt
unless_lost (Some stage.Before) t f o P kind lost =
    subst (λ (o : Option Task). UnlessRun o P) (sym kind.1) lost
unless_lost (Some stage.After) t f o P kind lost = absurd kind
