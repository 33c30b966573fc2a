-- What is read for a run by strategies doesn't end in the sink's fault.
use Rattle.std.proofs.Common.{◌≡◌, ℕ, List, [], ◌∷◌, Option, Some, None, Result, Ok, Err, subst, sym, refl}
use Rattle.action_list.specs.Lists.{list_of}
use Rattle.build_report.specs.declared.fault.RunFault.{RunFault}
use Rattle.build_report.specs.declared.fault.RunFault.TheVariants as fault
use Rattle.list_actions.specs.declared.faults.ListFault.{ListFault}
use Rattle.list_actions.specs.declared.types.ActionList.{ActionList}
use Rattle.list_actions.specs.declared.types.ListAction.{ListAction}
use Rattle.outside.specs.declared.answers.Read.{Read}
use Rattle.outside.specs.declared.answers.Read.TheVariants as read
use Rattle.outside.specs.declared.floor.FloorRead.{FloorRead}
use Rattle.remote_messages.specs.declared.work.WorkAction.{WorkAction}
use Rattle.outside.specs.Told.{FloorTold}
use Rattle.run_loading.specs.Reads.{Reads, UnlessBefore}
use Rattle.run_loading.specs.Course.{AfterList, BytesRead, ListFirst, Loads}
use Rattle.run_loading.specs.declared.loading.Loaded.{Loaded}
use Rattle.run_plan.specs.declared.plan.Plan.{Plan}
use Rattle.spawn_strategies.specs.declared.types.ChoiceFault.{ChoiceFault}
use Rattle.spawn_strategies.specs.declared.types.ChoiceFault.TheVariants as choice_fault
use Rattle.spawn_strategies.specs.declared.types.SpawnOptions.{SpawnOptions}
use Rattle.spawn_tasks.specs.Course.{ChoiceLeads, LoadLeads, PathRead, SpawnCourse, most_keys}
use Rattle.spawn_tasks.specs.declared.faults.NoSpawn.TheVariants as no
use Rattle.spawn_tasks.specs.Tasks.{choice_by}
use Rattle.worker_run.specs.Fronts.{IsOfReading}

-- ---- the list and its work

bytes_silent : (r : Result ActionList ListFault) (reads : List FloorRead)
    → BytesRead Loads r reads (Err fault.SinkFailed) → ⊥
bytes_silent (Err f) reads h = absurd (let e = h.1 in cc)
bytes_silent (Ok list) reads h = absurd h

after_silent : (path : List ℕ) (answer : Read) (reads : List FloorRead)
    → AfterList Loads most_keys path answer reads (Err fault.SinkFailed) → ⊥
after_silent path read.Absent reads h = absurd (let e = h.1 in cc)
after_silent path read.Failed reads h = absurd (let e = h.1 in cc)
after_silent path (read.Found bytes) reads h = bytes_silent (list_of most_keys bytes) reads h

load_silent : (path : List ℕ) (reads : List FloorRead)
    → ListFirst Loads most_keys path reads (Err fault.SinkFailed) → ⊥
load_silent path [] h = absurd h
load_silent path (first ∷ rest) h = after_silent path first.answer rest h.1

-- ---- what they lead to

choice_silent : (o : SpawnOptions) (xs : List ListAction) (ws : List WorkAction)
    (choice : Result Plan ChoiceFault)
    → ChoiceLeads o xs ws choice (Err (no.Fault fault.SinkFailed)) → ⊥
choice_silent o xs ws (Ok p) h = absurd h
choice_silent o xs ws (Err (choice_fault.NoneSupports a)) h = absurd (let e = h in cc)
choice_silent o xs ws (Err (choice_fault.TooManyKeys n)) h = absurd (let e = h in cc)
choice_silent o xs ws (Err choice_fault.NoMemory) h = absurd (let e = h in cc)

path_silent : (o : SpawnOptions) (path : Option (List ℕ)) (reads : List FloorRead)
    → PathRead o path reads (Err (no.Fault fault.SinkFailed)) → ⊥
path_silent o None reads h = absurd h
path_silent o (Some path) reads h = by h.0 h.1 h.2
  where
    by : (loaded : Result Loaded RunFault) → ListFirst Loads most_keys path reads loaded
        → LoadLeads o loaded (Err (no.Fault fault.SinkFailed)) → ⊥
    by (Ok loaded) first leads = choice_silent o loaded.list.actions loaded.work.actions
        (choice_by o loaded.list.actions) leads
    by (Err f) first leads = load_silent path reads
        (subst (λ (f : RunFault). ListFirst Loads most_keys path reads (Err f))
        (let e : f ≡ fault.SinkFailed = cc in e) first)

course_silent : (options : Option SpawnOptions) (reads : List FloorRead)
    → SpawnCourse options reads (Err (no.Fault fault.SinkFailed)) → ⊥
course_silent None reads h = absurd (let e = h.1 in cc)
course_silent (Some o) reads h = path_silent o o.options.list reads h

pub course_of_reading : (options : Option SpawnOptions) (before mid : FloorTold) (f : RunFault)
    → UnlessBefore (Some f) (Reads before mid (λ reads. SpawnCourse options reads (Err (no.Fault f))))
    → IsOfReading (Some f)
course_of_reading options before mid fault.SinkFailed h = absurd (course_silent options h.0 h.3)
course_of_reading options before mid (fault.NoMemory when) h = tt
course_of_reading options before mid fault.Words h = tt
course_of_reading options before mid (fault.List x) h = tt
course_of_reading options before mid (fault.Flags a x) h = tt
course_of_reading options before mid (fault.Absent at) h = tt
course_of_reading options before mid (fault.FloorFailed at) h = tt
