-- In which order words, a list and its actions' files are read, and what that leads to.
use Rattle.std.specs.Prelude.{◌≡◌, ℕ, List, [], Option, Some, None, Result, Ok, Err}
use Rattle.build_report.specs.declared.fault.RunFault.{RunFault}
use Rattle.build_report.specs.declared.fault.RunFault.TheVariants as fault
use Rattle.list_actions.specs.declared.types.ListAction.{ListAction}
use Rattle.outside.specs.declared.floor.FloorRead.{FloorRead}
use Rattle.outside.specs.Told.{FloorTold}
use Rattle.remote_messages.specs.declared.work.WorkAction.{WorkAction}
use Rattle.run_loading.specs.declared.loading.Loaded.{Loaded}
use Rattle.run_loading.specs.Course.{ListFirst, Loads}
use Rattle.run_loading.specs.Reads.{Reads, UnlessBefore}
use Rattle.run_loading.specs.Works.{Works}
use Rattle.run_plan.specs.declared.plan.Plan.{Plan}
use Rattle.spawn_strategies.specs.declared.types.ChoiceFault.{ChoiceFault}
use Rattle.spawn_strategies.specs.declared.types.SpawnOptions.{SpawnOptions}
use Rattle.spawn_strategies.specs.Choices.{chosen_names}
use Rattle.spawn_tasks.specs.declared.faults.NoSpawn.{NoSpawn}
use Rattle.spawn_tasks.specs.declared.faults.NoSpawn.TheVariants as no
use Rattle.spawn_tasks.specs.declared.tasks.SpawnTask.{SpawnTask}
use Rattle.spawn_tasks.specs.Faults.{fault_of, refused}
use Rattle.spawn_tasks.specs.Tasks.{IsSpawnTask, choice_by}
use Rattle.spawn_tasks.specs.Wording.{all_worded}

-- a task, or why there is none
abbrev pub Made : Type 0
Made = Result SpawnTask NoSpawn

-- so many worker keys may the list have by its own strategies
abbrev pub most_keys : ℕ
most_keys = 4096

-- The actions of the list have this work, and this plan was chosen: the task, or the fault of the
-- first action whose request words can't be expanded.
abbrev pub PlanLeads : SpawnOptions → List ListAction → List WorkAction → Plan → Made → Type 0
PlanLeads o xs ws p (Ok made) = IsSpawnTask o xs p made
    × Works (all_worded (chosen_names o.strategies xs) xs ws) (Ok made.task.work)
PlanLeads o xs ws p (Err (no.Fault f)) =
    Works (all_worded (chosen_names o.strategies xs) xs ws) (Err f)
PlanLeads o xs ws p (Err (no.NoStrategy action)) = ⊥

-- a choice that fails ends it
abbrev pub ChoiceLeads : SpawnOptions → List ListAction → List WorkAction
    → Result Plan ChoiceFault → Made → Type 0
ChoiceLeads o xs ws (Ok p) made = PlanLeads o xs ws p made
ChoiceLeads o xs ws (Err f) made = made ≡ Err (refused f)

-- what the list and its work lead to
abbrev pub ListLeads : SpawnOptions → List ListAction → List WorkAction → Made → Type 0
ListLeads o xs ws made = ChoiceLeads o xs ws (choice_by o xs) made

-- a list that can't be read with its work ends it
abbrev pub LoadLeads : SpawnOptions → Result Loaded RunFault → Made → Type 0
LoadLeads o (Ok loaded) made = ListLeads o loaded.list.actions loaded.work.actions made
LoadLeads o (Err f) made = made ≡ Err (no.Fault f)

-- The list at this path is read with its work by its own strategies. All else is made of these.
abbrev pub PathRead : SpawnOptions → Option (List ℕ) → List FloorRead → Made → Type 0
PathRead o (Some path) reads made = (loaded : Result Loaded RunFault)
    × ListFirst Loads most_keys path reads loaded × LoadLeads o loaded made
PathRead o None reads made = ⊥

-- Nothing is read where the words give no options.
abbrev pub SpawnCourse : Option SpawnOptions → List FloorRead → Made → Type 0
SpawnCourse None reads made = (reads ≡ []) × (made ≡ Err (no.Fault fault.Words))
SpawnCourse (Some o) reads made = PathRead o o.options.list reads made

-- What follows without reads holds, or memory ran out before the lanes.
abbrev pub UnlessMemory : {T : Type 0} → Result T NoSpawn → Type 0 → Type 0
UnlessMemory result P = UnlessBefore (fault_of result) P

-- The floor's reads led to this result, or memory ran out.
abbrev pub SpawnLeads : {T : Type 0} → FloorTold → FloorTold → Result T NoSpawn
    → (List FloorRead → Result T NoSpawn → Type 0) → Type 0
SpawnLeads before after result P =
    UnlessMemory result (Reads before after (λ reads. P reads result))
