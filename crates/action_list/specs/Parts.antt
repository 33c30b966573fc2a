-- What the workers of each group run, and what is spoken with them.
use Rattle.std.specs.Prelude.{ℕ, ◌==◌, ◌+◌, Bool, false, if◌then◌else◌, List, [], ◌∷◌, codes, position, slice_get, Option, Some, None, option_and_then}
use Rattle.run_plan.specs.declared.plan.Group.{Group}
use Rattle.run_plan.specs.declared.plan.Plan.{Plan}
use Rattle.run_plan.specs.declared.plan.PlanAction.{PlanAction}
use Rattle.run_plan.specs.declared.plan.Speech.TheVariants as speech
use Rattle.run_plan.specs.Groups.{is_remote}
use Rattle.plain_values.specs.declared.command.Command.{Command}
use Rattle.plain_values.specs.declared.command.Variable.{Variable}
use Rattle.action_list.specs.declared.parts.GroupPart.{GroupPart}
use Rattle.list_actions.specs.declared.types.ListAction.{ListAction}
use Rattle.action_list.specs.Keys.{worker_words}

-- the branch is this group's
abbrev pub is_of : ℕ → Option ℕ → Bool
is_of group None = false
is_of group (Some g) = g == group

-- the least action whose local branch is this group's
abbrev pub user_of : List ListAction → List PlanAction → ℕ → Option ListAction
user_of xs ys group = option_and_then (slice_get xs) (position (λ y. is_of group y.local) ys)

abbrev pub command_of : List (List ℕ) → List Variable → Command
command_of [] env = record { program = []; words = []; env = env }
command_of (program ∷ words) env = record { program = program; words = words; env = env }

-- A worker runs the start-up words of the action, in the action's environment.
abbrev pub worker_part : List (List ℕ) → ListAction → GroupPart
worker_part extra x = record {
  command = command_of (worker_words x.argv extra) x.env;
  speech = if x.needs.json then speech.Json else speech.Proto;
}

abbrev pub executor_part : List ℕ → GroupPart
executor_part executor = record {
  command = record { program = executor; words = codes "--serve" ∷ []; env = [] };
  speech = speech.Remote;
}

abbrev pub unused_part : GroupPart
unused_part =
    record { command = record { program = []; words = []; env = [] }; speech = speech.Proto }

abbrev pub user_part : List (List ℕ) → Option ListAction → GroupPart
user_part extra None = unused_part
user_part extra (Some x) = worker_part extra x

-- the part of a group, by the first action that uses it
abbrev pub part_of : Group → Option ListAction → List (List ℕ) → List ℕ → GroupPart
part_of group user extra executor =
    if is_remote group.kind then executor_part executor else user_part extra user

-- the parts of the groups from this number on
abbrev pub parts_from : List ListAction → List PlanAction → List (List ℕ) → List ℕ → ℕ → List Group
    → List GroupPart
parts_from xs ys extra executor number [] = []
parts_from xs ys extra executor number (g ∷ gs) =
    part_of g (user_of xs ys number) extra executor ∷ parts_from xs ys extra executor (number + 1) gs

abbrev pub parts_of : List ListAction → Plan → List (List ℕ) → List ℕ → List GroupPart
parts_of xs p extra executor = parts_from xs p.actions extra executor 0 p.groups
