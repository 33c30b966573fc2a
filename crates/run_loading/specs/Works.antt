-- The work that a list and its source files make.
use Rattle.std.specs.Prelude.{◌≡◌, ℕ, List, [], ◌∷◌, ◌++◌, length, map, filter_map, if◌then◌else◌, unwrap_or, Option, Some, None, Result, Ok, Err}
use Rattle.run_plan.specs.declared.plan.Maker.{Maker}
use Rattle.action_list.specs.Checks.{has_local}
use Rattle.list_actions.specs.declared.types.ListAction.{ListAction}
use Rattle.build_report.specs.declared.fault.RunFault.{RunFault}
use Rattle.build_report.specs.declared.fault.RunFault.TheVariants as fault
use Rattle.build_report.specs.declared.fault.Stage.TheVariants as stage
use Rattle.flag_files.specs.Expand.{expansion}
use Rattle.flag_files.specs.Split.{request_words}
use Rattle.flag_files.specs.declared.expanding.FlagFault.{FlagFault}
use Rattle.flag_files.specs.declared.expanding.FlagFault.TheVariants as flag
use Rattle.outside.specs.Floor.{file_at}
use Rattle.outside.specs.declared.floor.SourceFile.{SourceFile}
use Rattle.remote_messages.specs.declared.work.Origin.{Origin}
use Rattle.remote_messages.specs.declared.work.Origin.TheVariants as origin
use Rattle.remote_messages.specs.declared.work.Work.{Work}
use Rattle.remote_messages.specs.declared.work.WorkAction.{WorkAction}
use Rattle.remote_messages.specs.declared.work.WorkInput.{WorkInput}
use Rattle.run_loading.specs.Wanted.{Makers, source_file}

-- ---- inputs

-- what the read of the path found
abbrev pub bytes_at : List SourceFile → List ℕ → List ℕ
bytes_at files path = unwrap_or (file_at files path) []

abbrev pub origin_of : Option Maker → List ℕ → Origin
origin_of (Some m) bytes = origin.Made m.action m.output
origin_of None bytes = origin.Source bytes

abbrev pub work_input : Makers → List SourceFile → List ℕ → WorkInput
work_input makers files path =
    record { path = path; origin = origin_of (makers path) (bytes_at files path) }

abbrev pub work_inputs : Makers → List SourceFile → ListAction → List WorkInput
work_inputs makers files x = map (work_input makers files) x.inputs

abbrev pub file_from : List ℕ → Origin → Option SourceFile
file_from path (origin.Source bytes) = Some (source_file path bytes)
file_from path (origin.Made action output) = None

-- the source files among the inputs
abbrev pub source_files : List WorkInput → List SourceFile
source_files inputs = filter_map (λ i. file_from i.path i.origin) inputs

-- ---- actions

-- The words of an action's request, expanded over its own source files. A remote action has none.
abbrev pub due_words : ListAction → List WorkInput → Result (List (List ℕ)) FlagFault
due_words x inputs =
    if has_local x.strategy then expansion (request_words x.argv) (source_files inputs) else Ok []

abbrev pub work_action : ListAction → List WorkInput → List (List ℕ) → WorkAction
work_action x inputs words = record {
  request_words = words;
  arguments = x.argv;
  env = x.env;
  outputs = x.outputs;
  inputs = inputs;
}

abbrev pub with_words : ListAction → List WorkInput → Result (List (List ℕ)) FlagFault
    → Result WorkAction FlagFault
with_words x inputs (Ok words) = Ok (work_action x inputs words)
with_words x inputs (Err f) = Err f

abbrev pub work_by : ListAction → List WorkInput → Result WorkAction FlagFault
work_by x inputs = with_words x inputs (due_words x inputs)

-- the work of an action, or the fault of its words
abbrev pub due_work : Makers → List SourceFile → ListAction → Result WorkAction FlagFault
due_work makers files x = work_by x (work_inputs makers files x)

-- ---- answers

-- This is the first fault, of the action with this number; lack of memory is none.
pub record IsFirstFault (dues : List (Result WorkAction FlagFault)) (number : ℕ)
    (f : FlagFault) : Type 0 where
  pub earlier : List WorkAction
  pub later : List (Result WorkAction FlagFault)
  pub stands : dues ≡ map (λ w. Ok w) earlier ++ Err f ∷ later
  pub numbered : number ≡ length earlier
  pub real : f ≡ flag.NoMemory → ⊥

-- All actions have their work, or the first fault ends it.
abbrev pub Works : List (Result WorkAction FlagFault) → Result Work RunFault → Type 0
Works dues (Ok work) = dues ≡ map (λ w. Ok w) work.actions
Works dues (Err (fault.Flags number f)) = IsFirstFault dues number f
Works dues (Err (fault.NoMemory when)) = when ≡ stage.Before
Works dues (Err f) = ⊥

-- what is due of the action with this number, or its fault
abbrev pub Gives : {A : Type 0} → ℕ → Result A FlagFault → Result A RunFault → Type 0
Gives number due (Ok x) = due ≡ Ok x
Gives number due (Err (fault.Flags a f)) = (a ≡ number) × (due ≡ Err f) × (f ≡ flag.NoMemory → ⊥)
Gives number due (Err (fault.NoMemory when)) = when ≡ stage.Before
Gives number due (Err f) = ⊥
