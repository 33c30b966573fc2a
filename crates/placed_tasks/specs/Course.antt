-- In which order words, a list and its actions' files are read, and what that leads to.
use Rattle.std.specs.Prelude.{◌≡◌, ℕ, List, [], Option, Some, None, Result, Ok, Err}
use Rattle.action_list.specs.Lists.{list_of}
use Rattle.build_report.specs.declared.fault.RunFault.{RunFault}
use Rattle.build_report.specs.declared.fault.RunFault.TheVariants as fault
use Rattle.generated_list.specs.Generated.{generated_text}
use Rattle.list_actions.specs.declared.types.ListAction.{ListAction}
use Rattle.outside.specs.declared.floor.FloorRead.{FloorRead}
use Rattle.remote_messages.specs.declared.work.WorkAction.{WorkAction}
use Rattle.run_loading.specs.declared.loading.Loaded.{Loaded}
use Rattle.run_loading.specs.Course.{BytesRead, ListFirst, Loads}
use Rattle.run_loading.specs.Works.{Works}
use Rattle.run_plan.specs.declared.plan.Plan.{Plan}
use Rattle.shared_tasks.specs.Course.{most_keys}
use Rattle.spawn_strategies.specs.declared.types.ChoiceFault.{ChoiceFault}
use Rattle.spawn_strategies.specs.Choices.{chosen_names}
use Rattle.spawn_tasks.specs.declared.faults.NoSpawn.{NoSpawn}
use Rattle.spawn_tasks.specs.declared.faults.NoSpawn.TheVariants as no
use Rattle.spawn_tasks.specs.Faults.{refused}
use Rattle.spawn_tasks.specs.Wording.{all_worded}
use Rattle.placed_tasks.specs.declared.tasks.PlacedTask.{PlacedTask}
use Rattle.placed_tasks.specs.declared.words.RunOptions.{RunOptions}
use Rattle.placed_tasks.specs.Tasks.{IsPlacedTask, choice_by}

-- a task, or why there is none
abbrev pub Made : Type 0
Made = Result PlacedTask NoSpawn

-- the work of the actions by their chosen names, from their work by their own strategies
abbrev pub Worded : RunOptions → List ListAction → List WorkAction → Result PlacedTask RunFault
    → Type 0
Worded o xs ws (Ok made) =
    Works (all_worded (chosen_names o.given.strategies xs) xs ws) (Ok made.task.work)
Worded o xs ws (Err f) = Works (all_worded (chosen_names o.given.strategies xs) xs ws) (Err f)

-- The actions of the list have this work, and this plan was chosen: the task, or the fault of the
-- first action whose request words can't be expanded.
abbrev pub PlanLeads : RunOptions → List ListAction → List WorkAction → Plan → Made → Type 0
PlanLeads o xs ws p (Ok made) = IsPlacedTask o xs p made × Worded o xs ws (Ok made)
PlanLeads o xs ws p (Err (no.Fault f)) = Worded o xs ws (Err f)
PlanLeads o xs ws p (Err (no.NoStrategy action)) = ⊥

-- a choice that fails ends it
abbrev pub ChoiceLeads : RunOptions → List ListAction → List WorkAction
    → Result Plan ChoiceFault → Made → Type 0
ChoiceLeads o xs ws (Ok p) made = PlanLeads o xs ws p made
ChoiceLeads o xs ws (Err f) made = made ≡ Err (refused f)

-- what the list and its work lead to
abbrev pub ListLeads : RunOptions → List ListAction → List WorkAction → Made → Type 0
ListLeads o xs ws made = ChoiceLeads o xs ws (choice_by o xs) made

-- a list that can't be read with its work ends it
abbrev pub LoadLeads : RunOptions → Result Loaded RunFault → Made → Type 0
LoadLeads o (Ok loaded) made = ListLeads o loaded.list.actions loaded.work.actions made
LoadLeads o (Err f) made = made ≡ Err (no.Fault f)

-- Where the list is: it is read first, at its path, or it is generated without a read. It may have
-- many worker keys by its own strategies.
abbrev pub Sourced : Option (List ℕ) → Option ℕ → List FloorRead → Result Loaded RunFault → Type 0
Sourced (Some path) None reads loaded = ListFirst Loads most_keys path reads loaded
Sourced None (Some actions) reads loaded =
    BytesRead Loads (list_of most_keys (generated_text actions)) reads loaded
Sourced None None reads loaded = ⊥
Sourced (Some path) (Some actions) reads loaded = ⊥

-- The list is read with its work by its own strategies. All else is made of these.
abbrev pub OptionsRead : RunOptions → List FloorRead → Made → Type 0
OptionsRead o reads made = (loaded : Result Loaded RunFault)
    × Sourced o.given.options.list o.given.options.generate reads loaded
    × LoadLeads o loaded made

-- Nothing is read where the words give no options.
abbrev pub PlacedCourse : Option RunOptions → List FloorRead → Made → Type 0
PlacedCourse None reads made = (reads ≡ []) × (made ≡ Err (no.Fault fault.Words))
PlacedCourse (Some o) reads made = OptionsRead o reads made
