-- How the plan of the chosen strategies is made of another plan: its own words for the steps.
use Rattle.std.specs.Prelude.{ℕ, ◌+◌, not, List, [], ◌∷◌, length, filter, Result}
use Rattle.run_plan.specs.declared.plan.Group.{Group}
use Rattle.run_plan.specs.declared.plan.Plan.{Plan}
use Rattle.run_plan.specs.Groups.{is_remote}
use Rattle.list_actions.specs.declared.types.ListAction.{ListAction}
use Rattle.spawn_strategies.specs.declared.types.ChoiceFault.{ChoiceFault}
use Rattle.spawn_strategies.specs.declared.types.Name.{Name}
use Rattle.spawn_strategies.specs.declared.types.PlanLimits.{PlanLimits}
use Rattle.spawn_strategies.specs.Choices.{all_placed, groups_by, sandbox_groups, unless_many, with_name}

-- each of the actions by its name
abbrev pub all_named : List Name → List ListAction → List ListAction
all_named [] xs = []
all_named (n ∷ ns) [] = []
all_named (n ∷ ns) (x ∷ xs) = with_name n x ∷ all_named ns xs

-- the groups of a plan's keys
abbrev pub keyed : List Group → List Group
keyed groups = filter (λ g. not (is_remote g.kind)) groups

-- the plan with its actions placed by their names
abbrev pub placed_plan : Plan → List Name → ℕ → ℕ → Plan
placed_plan p ns sandboxed remote = record {
  actions = all_placed (length (keyed p.groups))
      (length (keyed p.groups) + length (sandbox_groups sandboxed ns)) ns p.actions;
  groups = groups_by (keyed p.groups) ns sandboxed remote;
  limit = p.limit;
}

abbrev pub placing : Plan → List Name → ℕ → PlanLimits → Result Plan ChoiceFault
placing p ns sandboxed l =
    unless_many l.keys (length (keyed p.groups)) (placed_plan p ns sandboxed l.remote)
