-- What is read for a run of shared berths doesn't end in the sink's fault.
use Rattle.std.proofs.Common.{◌≡◌, ℕ, List, [], ◌∷◌, Option, Some, None, Result, Ok, Err, IfOk, subst, sym, refl}
use Rattle.action_list.specs.Lists.{list_of}
use Rattle.build_report.specs.declared.fault.RunFault.{RunFault}
use Rattle.build_report.specs.declared.fault.RunFault.TheVariants as fault
use Rattle.list_actions.specs.declared.faults.ListFault.{ListFault}
use Rattle.list_actions.specs.declared.types.ActionList.{ActionList}
use Rattle.outside.specs.declared.answers.Read.{Read}
use Rattle.outside.specs.declared.answers.Read.TheVariants as read
use Rattle.outside.specs.declared.floor.FloorRead.{FloorRead}
use Rattle.outside.specs.Told.{FloorTold}
use Rattle.run_loading.specs.Course.{AfterList, BytesRead}
use Rattle.run_loading.specs.Reads.{Reads, UnlessBefore}
use Rattle.shared_tasks.specs.Course.{ListRead, SharedCourse, TaskRead, most_keys}
use Rattle.shared_tasks.specs.declared.words.SharedOptions.{SharedOptions}
use Rattle.worker_run.specs.Fronts.{IsOfReading}

bytes_silent : (o : SharedOptions) (r : Result ActionList ListFault) (reads : List FloorRead)
    → BytesRead (TaskRead o) r reads (Err fault.SinkFailed) → ⊥
bytes_silent o (Err f) reads h = absurd (let e = h.1 in cc)
bytes_silent o (Ok list) reads h = absurd h

after_silent : (o : SharedOptions) (path : List ℕ) (answer : Read) (reads : List FloorRead)
    → AfterList (TaskRead o) most_keys path answer reads (Err fault.SinkFailed) → ⊥
after_silent o path read.Absent reads h = absurd (let e = h.1 in cc)
after_silent o path read.Failed reads h = absurd (let e = h.1 in cc)
after_silent o path (read.Found bytes) reads h = bytes_silent o (list_of most_keys bytes) reads h

list_silent : (o : SharedOptions) (path : Option (List ℕ)) (reads : List FloorRead)
    → ListRead o path reads (Err fault.SinkFailed) → ⊥
list_silent o None reads h = absurd h
list_silent o (Some path) [] h = absurd h
list_silent o (Some path) (first ∷ rest) h = after_silent o path first.answer rest h.1

course_silent : (options : Option SharedOptions) (reads : List FloorRead)
    → SharedCourse options reads (Err fault.SinkFailed) → ⊥
course_silent None reads h = absurd (let e = h.1 in cc)
course_silent (Some o) reads h = list_silent o o.options.list reads h

pub course_of_reading : (options : Option SharedOptions) (before mid : FloorTold) (f : RunFault)
    → UnlessBefore (Some f) (Reads before mid (λ reads. SharedCourse options reads (Err f)))
    → IsOfReading (Some f)
course_of_reading options before mid fault.SinkFailed h = absurd (course_silent options h.0 h.3)
course_of_reading options before mid (fault.NoMemory when) h = tt
course_of_reading options before mid fault.Words h = tt
course_of_reading options before mid (fault.List x) h = tt
course_of_reading options before mid (fault.Flags a x) h = tt
course_of_reading options before mid (fault.Absent at) h = tt
course_of_reading options before mid (fault.FloorFailed at) h = tt
