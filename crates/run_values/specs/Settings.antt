-- What lines are set up by, for an attempt.
use Rattle.std.specs.Prelude.{◌≡◌, ℕ, ◌<◌, Bool, true, false, Option, Some, option_and_then, List, length, slice_get}
use Rattle.plain_values.specs.declared.command.Command.{Command}
use Rattle.run_plan.specs.declared.plan.Plan.{Plan}
use Rattle.run_plan.specs.declared.plan.Speech.{Speech}
use Rattle.run_plan.specs.declared.plan.Speech.TheVariants.{Remote}
use Rattle.exec_journal.specs.declared.attempt.Attempt.{Attempt}
use Rattle.exec_journal.specs.Seated.{group_for}
use Rattle.remote_messages.specs.declared.work.WorkAction.{WorkAction}
use Rattle.run_values.specs.declared.settings.Settings.{Settings}

-- the command of the attempt's group
abbrev pub command_for : Settings → Attempt → Option Command
command_for s t = option_and_then (λ g. slice_get s.commands.now g) (group_for s.plan.now t)

-- a group of the plan runs the attempt, and there is a command for it
pub record HasGroup (s : Settings) (t : Attempt) : Type 0 where
  pub group : ℕ
  pub of_branch : group_for s.plan.now t ≡ Some group
  pub there : group < length s.plan.now.groups
  pub commanded : group < length s.commands.now

-- it is spoken to executors, and to no others
abbrev pub speaks_remote : Speech → Bool
speaks_remote Remote = true
speaks_remote _ = false

-- The settings are of the plan, with a command for each of its groups.
pub record AreOfPlan (p : Plan) (s : Settings) : Type 0 where
  pub same : s.plan.now ≡ p
  pub as_many : length s.commands.now ≡ length p.groups

-- What a lane's orders are carried out by: what its berth's lines speak, the settings, and the work of
-- all actions.
pub record Means : Type 0 where
  pub speech : Speech
  pub settings : Settings
  pub actions : List WorkAction
