-- In which order words, a list and its actions' files are read, and what that leads to.
use Rattle.std.specs.Prelude.{◌≡◌, ℕ, Bool, true, false, List, Option, Some, None, Result, Ok, Err}
use Rattle.action_list.specs.Lists.{list_of}
use Rattle.list_actions.specs.declared.faults.ListFault.{ListFault}
use Rattle.list_actions.specs.declared.types.ActionList.{ActionList}
use Rattle.build_report.specs.declared.fault.RunFault.{RunFault}
use Rattle.build_report.specs.declared.fault.RunFault.TheVariants as fault
use Rattle.build_report.specs.declared.fault.Stage.TheVariants as stage
use Rattle.generated_list.specs.Generated.{generated_text}
use Rattle.outside.specs.declared.floor.FloorRead.{FloorRead}
use Rattle.run_loading.specs.Course.{BytesRead, ListFirst, WorkRead}
use Rattle.run_loading.specs.Reads.{EndsSo}
use Rattle.run_plan.specs.declared.plan.Plan.{Plan}
use Rattle.tool_words.specs.declared.options.Options.{Options}
use Rattle.run_tasks.specs.Tasks.{IsTaskOf}
use Rattle.run_tasks.specs.declared.task.Task.{Task}
use Rattle.run_plan.specs.Limits.{most_local_berths}

-- a task and its plan once more, or why there is none
abbrev pub Made : Type 0
Made = Result (Task × Plan) RunFault

-- The reads of what the list's actions want, up to the first that isn't answered Found, and what
-- they lead to: the list's work and task, or the fault of that read or of an action's words.
abbrev pub TaskRead : Options → Bool → ActionList → List FloorRead → Made → Type 0
TaskRead o short list reads (Ok made) =
    WorkRead list.actions reads (Ok made.0.work) × IsTaskOf o list.actions short made
TaskRead o short list reads (Err f) = WorkRead list.actions reads (Err f)

-- The list at this path is read first.
abbrev pub ListRead : Options → List ℕ → List FloorRead → Made → Type 0
ListRead o path reads made = ListFirst (TaskRead o false) most_local_berths path reads made

-- The list of so many actions is generated: no read is made for it, and its report is short.
abbrev pub GeneratedRead : Options → ℕ → List FloorRead → Made → Type 0
GeneratedRead o actions reads made =
    BytesRead (TaskRead o true) (list_of most_local_berths (generated_text actions)) reads made

-- There is a list's path, or a number of actions to generate in its place, and never both.
abbrev pub OptionsRead : Options → Option (List ℕ) → Option ℕ → List FloorRead → Made → Type 0
OptionsRead o (Some path) None reads made = ListRead o path reads made
OptionsRead o None (Some actions) reads made = GeneratedRead o actions reads made
OptionsRead o None None reads made = ⊥
OptionsRead o (Some path) (Some actions) reads made = ⊥

-- Nothing is read where the words give no options.
abbrev pub Course : Option Options → List FloorRead → Made → Type 0
Course None reads made = EndsSo (Err fault.Words) reads made
Course (Some o) reads made = OptionsRead o o.list o.generate reads made

-- what the bytes of a list give, unless memory runs out
abbrev pub ListGives : Result ActionList ListFault → Result ActionList RunFault → Type 0
ListGives due (Ok list) = due ≡ Ok list
ListGives due (Err (fault.List f)) = due ≡ Err f
ListGives due (Err (fault.NoMemory when)) = when ≡ stage.Before
ListGives due (Err f) = ⊥
