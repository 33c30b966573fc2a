use Rattle.std.proofs.Common.{◌*◌, ◌+◌}
use Rattle.run_plan.specs.Groups.{berths}
use Rattle.core_contract.specs.Disciplines.{own_discipline}
use Rattle.placed_rules.specs.Placed.{delayed_discipline}
use Rattle.placed_rules.specs.Pools.{seats}
use Rattle.placed_rules.specs.Placed.{shared_discipline}
use Rattle.progress_laws.proofs.Delay as delay
use Rattle.progress_laws.proofs.Moments.{never_stuck}
use Rattle.progress_laws.proofs.Own as own
use Rattle.progress_laws.proofs.Shared as shared
use Rattle.progress_laws.proofs.laws.no_moment_is_stuck.Goals as goal

pub returns : goal.returns
returns c = record {
  own = λ p j sound has. never_stuck (own_discipline p) (2 * berths p)
      (λ k legal rest. own.ends_or_waits p k sound has legal rest) j;
  delayed = λ p n j sound has. never_stuck (delayed_discipline p n) (2 * berths p + 1)
      (λ k legal rest. delay.ends_or_waits p n k sound has legal rest) j;
  shared = λ s j sound has. never_stuck (shared_discipline s) (2 * seats s)
      (λ k legal rest. shared.ends_or_waits s k sound has legal rest) j;
}
