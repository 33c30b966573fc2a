-- What holds of the speeches of all berths, and of the commands of all groups.
use Rattle.std.specs.Prelude.{◌≡◌, ◌↔◌, ℕ, ◌<◌, List, length, Some, slice_get}
use Rattle.run_plan.specs.declared.plan.Plan.{Plan}
use Rattle.run_plan.specs.declared.plan.Kind.TheVariants as kind
use Rattle.run_plan.specs.declared.plan.Speech.{Speech}
use Rattle.run_plan.specs.declared.plan.Speech.TheVariants as speech
use Rattle.run_plan.specs.Groups.{berths, kind_of}
use Rattle.action_list.specs.declared.parts.GroupPart.{GroupPart}
use Rattle.list_actions.specs.declared.types.ListAction.{ListAction}
use Rattle.action_list.specs.Parts.{parts_of}
use Rattle.run_tasks.specs.Setup.{commands_for, part_at, speeches_for}

-- the berth w has a speech: that of its group's part
abbrev pub HasSpeech : Plan → List GroupPart → ℕ → Type 0
HasSpeech plan parts w =
    (part : GroupPart) × (part_at plan parts w ≡ Some part)
    × (slice_get (speeches_for plan parts) w ≡ Some part.speech)

-- there are as many speeches as berths, and each berth has its own
abbrev pub SpeechesLaw : Type 0
SpeechesLaw =
    (plan : Plan) (parts : List GroupPart) → length parts ≡ length plan.groups
    → (length (speeches_for plan parts) ≡ berths plan)
    × ((w : ℕ) → w < berths plan → HasSpeech plan parts w)

-- the group g has a command: that of its part
abbrev pub HasCommand : List GroupPart → ℕ → Type 0
HasCommand parts g =
    (part : GroupPart) × (slice_get parts g ≡ Some part)
    × (slice_get (commands_for parts) g ≡ Some part.command)

-- there are as many commands as groups, and each group has its own
abbrev pub CommandsLaw : Type 0
CommandsLaw =
    (plan : Plan) (parts : List GroupPart) → length parts ≡ length plan.groups
    → (length (commands_for parts) ≡ length plan.groups)
    × ((g : ℕ) → g < length plan.groups → HasCommand parts g)

abbrev pub PartsLaw : Type 0
PartsLaw =
    (actions : List ListAction) (plan : Plan) (extra : List (List ℕ)) (executor : List ℕ)
    → length (parts_of actions plan extra executor) ≡ length plan.groups

-- a berth speaks as an executor does exactly where its kind is an executor's
abbrev pub SpeaksAsItIs : Plan → ℕ → Speech → Type 0
SpeaksAsItIs plan w spoken = (spoken ≡ speech.Remote) ↔ (kind_of plan w ≡ kind.Remote)

abbrev pub SpeechLaw : Type 0
SpeechLaw =
    (actions : List ListAction) (plan : Plan) (extra : List (List ℕ)) (executor : List ℕ)
    (w : ℕ) (spoken : Speech)
    → slice_get (speeches_for plan (parts_of actions plan extra executor)) w ≡ Some spoken
    → SpeaksAsItIs plan w spoken
