-- Whose group has the sandbox executor's command.
use Rattle.std.specs.Prelude.{◌≡◌, ℕ, List, Some, None, Ok, slice_get}
use Rattle.list_actions.specs.declared.types.ListAction.{ListAction}
use Rattle.run_plan.specs.declared.plan.Plan.{Plan}
use Rattle.run_plan.specs.declared.plan.PlanAction.{PlanAction}
use Rattle.spawn_strategies.specs.declared.types.Name.{Name}
use Rattle.spawn_strategies.specs.declared.types.Name.TheVariants as name
use Rattle.spawn_strategies.specs.declared.types.PlanLimits.{PlanLimits}
use Rattle.spawn_strategies.specs.declared.types.SpawnOptions.{SpawnOptions}
use Rattle.spawn_strategies.specs.Choices.{choice_of, chosen_names}
use Rattle.spawn_strategies.specs.SpawnOptions.{AreGiven}
use Rattle.spawn_tasks.specs.Tasks.{sandbox_group}

-- it runs there alone
pub record IsOn (group : ℕ) (y : PlanAction) : Type 0 where
  pub local : y.local ≡ Some group
  pub remote : y.remote ≡ None

-- it has no branch there
pub record IsOff (group : ℕ) (y : PlanAction) : Type 0 where
  pub local : y.local ≡ Some group → ⊥
  pub remote : y.remote ≡ Some group → ⊥

abbrev pub RunsBy : ℕ → Name → PlanAction → Type 0
RunsBy group name.Worker y = IsOff group y
RunsBy group name.Sandboxed y = IsOn group y
RunsBy group name.Remote y = IsOff group y
RunsBy group name.Dynamic y = IsOff group y

-- Of this plan, whatever its limits, the action a has this name and these branches.
pub record IsNamed (o : SpawnOptions) (xs : List ListAction) (p : Plan) (a : ℕ) (n : Name)
    (y : PlanAction) : Type 0 where
  pub given : AreGiven o
  pub limits : PlanLimits
  pub chosen : choice_of xs o.strategies limits ≡ Ok p
  pub named : slice_get (chosen_names o.strategies xs) a ≡ Some n
  pub action : slice_get p.actions a ≡ Some y

-- The sandboxed actions run on their group, and no others do.
abbrev pub SandboxLaw : Type 0
SandboxLaw =
    (o : SpawnOptions) (xs : List ListAction) (p : Plan) (a group : ℕ) (n : Name)
    (y : PlanAction) → IsNamed o xs p a n y
    → sandbox_group p.groups (chosen_names o.strategies xs) ≡ Some group → RunsBy group n y

-- Where an action is sandboxed there is such a group.
abbrev pub HasGroupLaw : Type 0
HasGroupLaw =
    (o : SpawnOptions) (xs : List ListAction) (p : Plan) (a : ℕ) (y : PlanAction)
    → IsNamed o xs p a name.Sandboxed y → (group : ℕ)
    × (sandbox_group p.groups (chosen_names o.strategies xs) ≡ Some group)
