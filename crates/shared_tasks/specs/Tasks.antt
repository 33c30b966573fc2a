-- What a list comes to by the options of the command with shared berths.
use Rattle.std.specs.Prelude.{◌≡◌, ℕ, false, List, [], length, map, slice_get, Some}
use Rattle.action_list.specs.declared.parts.GroupPart.{GroupPart}
use Rattle.action_list.specs.Parts.{parts_of}
use Rattle.action_list.specs.Plans.{plan_of}
use Rattle.list_actions.specs.declared.types.ListAction.{ListAction}
use Rattle.run_values.specs.Work.{IsWorkOf}
use Rattle.run_plan.specs.declared.plan.Group.{Group}
use Rattle.run_plan.specs.declared.plan.Plan.{Plan}
use Rattle.run_plan.specs.declared.plan.Speech.{Speech}
use Rattle.run_plan.specs.Sound.{Sound}
use Rattle.run_tasks.specs.Setup.{commands_for}
use Rattle.run_values.specs.Settings.{speaks_remote}
use Rattle.placed_rules.specs.declared.pools.SharedPlan.{SharedPlan}
use Rattle.placed_rules.specs.declared.pools.SharedPool.{SharedPool}
use Rattle.placed_rules.specs.Pools.{SoundPools, is_remote_berth, seats}
use Rattle.placed_rules.specs.Runnable.{EachHasPool}
use Rattle.shared_tasks.specs.declared.words.SharedOptions.{SharedOptions}
use Rattle.shared_tasks.specs.declared.reading.SharedTask.{SharedTask}
use Rattle.shared_tasks.specs.Pools.{pools_in, speeches_in, spoken_pools}

-- the plan with no berth for a worker key, and the executor's berths
abbrev pub drawn : SharedOptions → List ListAction → Plan
drawn o xs = plan_of xs 0 o.options.remote o.options.retries

abbrev pub without_berths : Group → Group
without_berths g = record { kind = g.kind; cancel = g.cancel; berths = 0 }

-- the plan, no group of which has berths of its own
abbrev pub bare : Plan → Plan
bare p = record { actions = p.actions; groups = map without_berths p.groups; limit = p.limit }

abbrev pub bare_plan : SharedOptions → List ListAction → Plan
bare_plan o xs = bare (drawn o xs)

abbrev pub parts_by : SharedOptions → List ListAction → List GroupPart
parts_by o xs = parts_of xs (bare_plan o xs) o.options.extra o.options.executor

-- the executor's berths are as many as it would have of its own
abbrev pub pools_by : SharedOptions → List ListAction → List (Speech × SharedPool)
pools_by o xs = spoken_pools (drawn o xs).groups (parts_by o xs) o.workers

-- a plan on the berths of pools: so many workers a protocol, and so many lines of a worker key
abbrev pub pooled : Plan → List GroupPart → ℕ → ℕ → SharedPlan
pooled p parts workers instances = record {
  plan = bare p;
  pools = pools_in (spoken_pools p.groups parts workers);
  instances = instances;
}

abbrev pub shared_plan : SharedOptions → List ListAction → SharedPlan
shared_plan o xs = pooled (drawn o xs) (parts_by o xs) o.workers o.options.instances

-- all of a list's task but its work, and the plan of the core
pub record IsSharedTask (o : SharedOptions) (xs : List ListAction) (made : SharedTask)
    : Type 0 where
  pub plan : made.task.plan ≡ bare_plan o xs
  pub shared : made.shared ≡ shared_plan o xs
  pub commands : made.task.commands.items ≡ commands_for (parts_by o xs)
  pub speeches : made.task.speeches.items ≡ speeches_in (pools_by o xs)
  pub verbose : made.task.verbose ≡ o.options.verbose
  pub report : made.task.short ≡ false

-- each berth speaks as executors do exactly where its pool has executors
abbrev pub SpeechesFit : SharedPlan → List Speech → Type 0
SpeechesFit shared speeches =
    (w : ℕ) (s : Speech) → slice_get speeches w ≡ Some s
    → speaks_remote s ≡ is_remote_berth shared w

-- What a run of it by a core of shared berths asks: both plans are the same and sound, and so are the
-- pools; each group that a branch names stands in a pool with a berth, and may hold a line there;
-- there is a command for each group, a speech for each berth, which fits it, and the work of each
-- action; and without berths there are no actions.
pub record MayBeShared (made : SharedTask) : Type 0 where
  pub plan : made.shared.plan ≡ made.task.plan
  pub sound : Sound made.task.plan
  pub pools : SoundPools made.shared
  pub runnable : EachHasPool made.shared
  pub commanded : length made.task.commands.items ≡ length made.task.plan.groups
  pub as_many : length made.task.speeches.items ≡ seats made.shared
  pub speeches : SpeechesFit made.shared made.task.speeches.items
  pub work : IsWorkOf made.shared.plan made.task.work.actions
  pub actions : seats made.shared ≡ 0 → made.task.plan.actions ≡ []
