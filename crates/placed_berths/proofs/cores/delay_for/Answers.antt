use Rattle.std.proofs.Common.{ℕ, [], Option, Some, subst, sym}
use Rattle.placed_berths.specs.Counts.{Facts}
use Rattle.placed_berths.specs.Stands.{DelayStands, StandsFor}
use Rattle.placed_berths.proofs.TicksBegun.{begun}
use Rattle.placed_berths.proofs.cores.delay_for.Goals as goal

pub returns-in_ok-delay-in-Some : goal.returns-in_ok-delay-in-Some
returns-in_ok-delay-in-Some c =
    subst (λ (t : Option ℕ). DelayStands c.args.plan.now t (Some c.in_ok-delay-in-Some.delay) [])
    (sym c.in-Some.is)
    (subst (λ (f : Facts). StandsFor c.args.plan.now c.in-Some.ticks f [])
    (sym c.in_ok-delay-in-Some.ensures) (begun c.args.plan.now c.in-Some.ticks c.requires))
