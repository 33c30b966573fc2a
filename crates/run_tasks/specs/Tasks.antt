-- What a list comes to by the options of a command.
use Rattle.std.specs.Prelude.{◌≡◌, ℕ, Bool, List, [], length, Some, slice_get}
use Rattle.action_list.specs.declared.parts.GroupPart.{GroupPart}
use Rattle.action_list.specs.Parts.{parts_of}
use Rattle.action_list.specs.Plans.{plan_of}
use Rattle.list_actions.specs.declared.types.ListAction.{ListAction}
use Rattle.run_tasks.specs.Setup.{commands_for, speeches_for}
use Rattle.run_values.specs.Settings.{speaks_remote}
use Rattle.run_values.specs.Work.{IsWorkOf}
use Rattle.run_plan.specs.Groups.{berths, is_remote, kind_of}
use Rattle.run_plan.specs.Sound.{Sound}
use Rattle.run_plan.specs.declared.plan.Plan.{Plan}
use Rattle.run_plan.specs.declared.plan.Speech.{Speech}
use Rattle.tool_words.specs.declared.options.Options.{Options}
use Rattle.run_tasks.specs.declared.task.Task.{Task}

-- the plan of these actions: with so many workers of a key, so many executors, so many retries
abbrev pub plan_by : Options → List ListAction → Plan
plan_by o xs = plan_of xs o.instances o.remote o.retries

-- the parts of that plan's groups, with the extra flags and the executor
abbrev pub parts_by : Options → List ListAction → List GroupPart
parts_by o xs = parts_of xs (plan_by o xs) o.extra o.executor

-- All of a list's task but its work, and the plan twice.
pub record IsTaskOf (o : Options) (xs : List ListAction) (short : Bool)
    (made : Task × Plan) : Type 0 where
  pub plan : made.0.plan ≡ plan_by o xs
  pub again : made.1 ≡ plan_by o xs
  pub commands : made.0.commands.items ≡ commands_for (parts_by o xs)
  pub speeches : made.0.speeches.items ≡ speeches_for (plan_by o xs) (parts_by o xs)
  pub verbose : made.0.verbose ≡ o.verbose
  pub report : made.0.short ≡ short

-- the plan is sound, and the second is the same
abbrev pub HasSoundPlans : Task × Plan → Type 0
HasSoundPlans made = Sound made.0.plan × (made.1 ≡ made.0.plan)

-- a plan without berths has no actions
abbrev pub HasBerths : Plan → Type 0
HasBerths p = berths p ≡ 0 → p.actions ≡ []

-- The work of each of the plan's actions has its outputs, and its made inputs are among the plan's.
abbrev pub HasWork : Task → Type 0
HasWork task = IsWorkOf task.plan task.work.actions

-- each berth of the plan speaks as executors do exactly where it is an executor's
abbrev pub SpeechesFit : Plan → List Speech → Type 0
SpeechesFit plan speeches =
    (w : ℕ) (s : Speech) → slice_get speeches w ≡ Some s
    → speaks_remote s ≡ is_remote (kind_of plan w)

-- there is a command for each group of the plan, and a speech for each berth, which fits it
pub record HasSettings (task : Task) : Type 0 where
  pub commanded : length task.commands.items ≡ length task.plan.groups
  pub as_many : length task.speeches.items ≡ berths task.plan
  pub fit : SpeechesFit task.plan task.speeches.items
