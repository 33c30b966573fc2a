-- The settings of a proxy lane's berth.
use Rattle.std.specs.Prelude.{◌≡◌, ℕ}
use Rattle.run_plan.specs.Groups.{is_remote}
use Rattle.run_plan.specs.declared.plan.Speech.{Speech}
use Rattle.core_contract.specs.Discipline.{Discipline}
use Rattle.run_values.specs.Settings.{AreOfPlan, speaks_remote}
use Rattle.run_values.specs.declared.settings.Settings.{Settings}

-- The settings are of the discipline's plan, and the speech is an executor's exactly if the berth is.
pub record FitsSettings (q : Discipline) (berth : ℕ) (speech : Speech) (s : Settings) : Type 0
  where
    pub of_plan : AreOfPlan q.plan s
    pub speaks : speaks_remote speech ≡ is_remote (q.kinds berth)
