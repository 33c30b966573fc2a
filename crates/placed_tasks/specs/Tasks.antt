-- What a list comes to by the options of the command that has all options.
use Rattle.std.specs.Prelude.{◌≡◌, ◌≤◌, ℕ, zero, suc, IfSome, is_some, unwrap_or, List, Option, Some, None, Result}
use Rattle.action_list.specs.declared.parts.GroupPart.{GroupPart}
use Rattle.list_actions.specs.declared.types.ListAction.{ListAction}
use Rattle.placed_rules.specs.declared.placed.Placed.{Placed}
use Rattle.placed_rules.specs.declared.placed.Seating.{Seating}
use Rattle.placed_rules.specs.declared.placed.Seating.TheVariants.{Own, Pools}
use Rattle.placed_rules.specs.Placed.{on_own, on_pools, shared_by}
use Rattle.run_plan.specs.declared.plan.Plan.{Plan}
use Rattle.run_plan.specs.declared.plan.Speech.{Speech}
use Rattle.run_plan.specs.Limits.{most_local_berths}
use Rattle.run_tasks.specs.Setup.{commands_for, speeches_for}
use Rattle.shared_tasks.specs.Course.{most_keys}
use Rattle.shared_tasks.specs.Pools.{speeches_in, spoken_pools}
use Rattle.shared_tasks.specs.Tasks.{MayBeShared, pooled}
use Rattle.spawn_strategies.specs.declared.types.ChoiceFault.{ChoiceFault}
use Rattle.spawn_strategies.specs.declared.types.PlanLimits.{PlanLimits}
use Rattle.spawn_strategies.specs.Choices.{choice_of}
use Rattle.spawn_tasks.specs.Tasks.{MayBeSpawned, parts_by}
use Rattle.placed_tasks.specs.declared.tasks.PlacedTask.{PlacedTask}
use Rattle.placed_tasks.specs.declared.words.RunOptions.{RunOptions}

-- ---- the chosen plan

-- so many keys may it have: many where they share berths
abbrev pub keys_by : Option ℕ → ℕ
keys_by None = most_local_berths
keys_by (Some workers) = most_keys

-- so many berths of its own has a key at most: none where keys share them
abbrev pub instances_by : Option ℕ → ℕ → ℕ
instances_by None instances = instances
instances_by (Some workers) instances = 0

abbrev pub limits_of : RunOptions → PlanLimits
limits_of o = record {
  keys = keys_by o.workers;
  instances = instances_by o.workers o.given.options.instances;
  remote = o.given.options.remote;
  retries = o.given.options.retries;
}

-- the plan of the chosen strategies, or why there is none
abbrev pub choice_by : RunOptions → List ListAction → Result Plan ChoiceFault
choice_by o xs = choice_of xs o.given.strategies (limits_of o)

-- ---- its berths

-- for a delay of no milliseconds there are no Ticks
abbrev pub ticks_for : ℕ → Option ℕ
ticks_for zero = None
ticks_for (suc n) = Some (suc n)

-- on berths of its own, or on those of pools: so many workers a protocol, so many lines of a key
abbrev pub seated_by : Option ℕ → ℕ → Option ℕ → Plan → List GroupPart → Placed
seated_by None instances ticks p parts = on_own p ticks
seated_by (Some workers) instances ticks p parts =
    on_pools (pooled p parts workers instances) ticks

abbrev pub seated_on : RunOptions → Plan → List GroupPart → Placed
seated_on o p parts =
    seated_by o.workers o.given.options.instances (ticks_for o.given.local_delay) p parts

-- the speech of each berth
abbrev pub speeches_by : Option ℕ → Plan → List GroupPart → List Speech
speeches_by None p parts = speeches_for p parts
speeches_by (Some workers) p parts = speeches_in (spoken_pools p.groups parts workers)

-- ---- the task

-- all of the task of a plan whose groups have these parts, but its work
pub record IsTaskOn (o : RunOptions) (p : Plan) (parts : List GroupPart) (made : PlacedTask)
    : Type 0 where
  pub placed : made.placed ≡ seated_on o p parts
  pub plan : made.task.plan ≡ made.placed.plan
  pub commands : made.task.commands.items ≡ commands_for parts
  pub speeches : made.task.speeches.items ≡ speeches_by o.workers p parts
  pub verbose : made.task.verbose ≡ o.given.options.verbose
  pub report : made.task.short ≡ is_some o.given.options.generate

-- all of the task of this chosen plan but its work
abbrev pub IsPlacedTask : RunOptions → List ListAction → Plan → PlacedTask → Type 0
IsPlacedTask o xs p made = IsTaskOn o p (parts_by o.given xs p) made

-- What a run of it by these berths asks: what a run on own berths asks, or one on shared berths.
abbrev pub MayBeOn : Seating → PlacedTask → Type 0
MayBeOn Own made = MayBeSpawned (record {
  task = made.task;
  twin = made.placed.plan;
  delay = unwrap_or made.placed.ticks 0;
})
MayBeOn (Pools pools instances) made = MayBeShared (record {
  task = made.task;
  shared = shared_by made.placed.plan pools instances;
})

-- What a run of it asks. Where a lane makes Ticks, a branch waits for one at least, and for few.
pub record MayBePlaced (made : PlacedTask) : Type 0 where
  pub seated : MayBeOn made.placed.seating made
  pub ticks : IfSome made.placed.ticks (λ n. (1 ≤ n) × (n ≤ 9999))
