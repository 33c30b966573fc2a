-- What a list comes to by its chosen strategies.
use Rattle.std.specs.Prelude.{◌≡◌, ◌≤◌, ℕ, false, if◌then◌else◌, List, position, slice_set, Option, Some, None, Result}
use Rattle.std.specs.List.{list_any}
use Rattle.action_list.specs.declared.parts.GroupPart.{GroupPart}
use Rattle.action_list.specs.Parts.{executor_part, parts_of}
use Rattle.run_values.specs.Runnable.{EachHasBerth}
use Rattle.list_actions.specs.declared.types.ListAction.{ListAction}
use Rattle.run_plan.specs.declared.plan.Group.{Group}
use Rattle.run_plan.specs.declared.plan.Plan.{Plan}
use Rattle.run_plan.specs.Groups.{is_remote}
use Rattle.run_plan.specs.Limits.{most_local_berths}
use Rattle.run_plan.specs.Sound.{Sound}
use Rattle.run_tasks.specs.Setup.{commands_for, speeches_for}
use Rattle.run_tasks.specs.Tasks.{HasBerths, HasSettings, HasWork}
use Rattle.spawn_strategies.specs.declared.types.ChoiceFault.{ChoiceFault}
use Rattle.spawn_strategies.specs.declared.types.Name.{Name}
use Rattle.spawn_strategies.specs.declared.types.PlanLimits.{PlanLimits}
use Rattle.spawn_strategies.specs.declared.types.SpawnOptions.{SpawnOptions}
use Rattle.spawn_strategies.specs.Choices.{choice_of, chosen_names, is_sandboxed}
use Rattle.spawn_tasks.specs.declared.tasks.SpawnTask.{SpawnTask}

-- the limits of a plan whose worker keys have berths of their own
abbrev pub own_limits : SpawnOptions → PlanLimits
own_limits o = record {
  keys = most_local_berths;
  instances = o.options.instances;
  remote = o.options.remote;
  retries = o.options.retries;
}

-- the plan of the chosen strategies, or why there is none
abbrev pub choice_by : SpawnOptions → List ListAction → Result Plan ChoiceFault
choice_by o xs = choice_of xs o.strategies (own_limits o)

-- The group of the sandboxed actions, where there are any: it is the first of kind Remote, right
-- behind those of the worker keys.
abbrev pub sandbox_group : List Group → List Name → Option ℕ
sandbox_group groups ns =
    if list_any is_sandboxed ns then position (λ g. is_remote g.kind) groups else None

-- the parts with that of this group in place of its own: the sandbox executor's
abbrev pub with_sandbox : Option ℕ → List ℕ → List GroupPart → List GroupPart
with_sandbox None executor parts = parts
with_sandbox (Some group) executor parts = slice_set parts group (executor_part executor)

-- The groups have their parts as in every plan, but for the group of the sandboxed actions.
abbrev pub parts_by : SpawnOptions → List ListAction → Plan → List GroupPart
parts_by o xs p =
    with_sandbox (sandbox_group p.groups (chosen_names o.strategies xs)) o.sandbox_executor
    (parts_of xs p o.options.extra o.options.executor)

-- all of a task with this plan but its work
pub record IsSpawnTask (o : SpawnOptions) (xs : List ListAction) (p : Plan) (made : SpawnTask)
    : Type 0 where
  pub plan : made.task.plan ≡ p
  pub twin : made.twin ≡ p
  pub commands : made.task.commands.items ≡ commands_for (parts_by o xs p)
  pub speeches : made.task.speeches.items ≡ speeches_for p (parts_by o xs p)
  pub verbose : made.task.verbose ≡ o.options.verbose
  pub report : made.task.short ≡ false
  pub delay : made.delay ≡ o.local_delay

-- What a run of it asks: the plan is sound, and the same twice; without berths there are no
-- actions; each group that a branch names has a berth; each action has its work, each group its
-- command, each berth a speech that fits it; and the delay is at most 9,999 milliseconds.
pub record MayBeSpawned (made : SpawnTask) : Type 0 where
  pub sound : Sound made.task.plan
  pub twin : made.twin ≡ made.task.plan
  pub berths : HasBerths made.task.plan
  pub runnable : EachHasBerth made.task.plan
  pub work : HasWork made.task
  pub settings : HasSettings made.task
  pub delay : made.delay ≤ 9999
