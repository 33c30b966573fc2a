-- In which order words, a list and its actions' files are read, and what that leads to.
use Rattle.std.specs.Prelude.{ℕ, List, Option, Some, None, Result, Ok, Err}
use Rattle.list_actions.specs.declared.types.ActionList.{ActionList}
use Rattle.build_report.specs.declared.fault.RunFault.{RunFault}
use Rattle.build_report.specs.declared.fault.RunFault.TheVariants as fault
use Rattle.outside.specs.declared.floor.FloorRead.{FloorRead}
use Rattle.run_loading.specs.Course.{ListFirst, WorkRead}
use Rattle.run_loading.specs.Reads.{EndsSo}
use Rattle.shared_tasks.specs.declared.words.SharedOptions.{SharedOptions}
use Rattle.shared_tasks.specs.declared.reading.SharedTask.{SharedTask}
use Rattle.shared_tasks.specs.Tasks.{IsSharedTask}

-- a task with the plan of its core, or why there is none
abbrev pub Made : Type 0
Made = Result SharedTask RunFault

-- so many worker keys may a list have
abbrev pub most_keys : ℕ
most_keys = 4096

-- The reads of what the list's actions want, up to the first that isn't answered Found, and what
-- they lead to: the list's work and task, or the fault of that read or of an action's words.
abbrev pub TaskRead : SharedOptions → ActionList → List FloorRead → Made → Type 0
TaskRead o list reads (Ok made) =
    WorkRead list.actions reads (Ok made.task.work) × IsSharedTask o list.actions made
TaskRead o list reads (Err f) = WorkRead list.actions reads (Err f)

-- The list is read first, at the path that the options have.
abbrev pub ListRead : SharedOptions → Option (List ℕ) → List FloorRead → Made → Type 0
ListRead o (Some path) reads made = ListFirst (TaskRead o) most_keys path reads made
ListRead o None reads made = ⊥

-- Nothing is read where the words give no options.
abbrev pub SharedCourse : Option SharedOptions → List FloorRead → Made → Type 0
SharedCourse None reads made = EndsSo (Err fault.Words) reads made
SharedCourse (Some o) reads made = ListRead o o.options.list reads made
