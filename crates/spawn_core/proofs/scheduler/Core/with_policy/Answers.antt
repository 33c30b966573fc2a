use Rattle.std.proofs.Common.{[], ap, arith, refl, subst, sym, ◌*◌}
use Rattle.run_plan.specs.Sound.{Sound}
use Rattle.spawn_core.proofs.New.{new_stands}
use Rattle.spawn_core.proofs.scheduler.Core.with_policy.Goals as goal

pub lane_tables-requires : goal.lane_tables-requires
lane_tables-requires g c =
    let law = g.met.P.Policy in
    let b = g.P.Policy.basis c.args.policy c.args.plan in
    let few = law.few_berths b
    (subst Sound (sym (law.plan_is c.args.policy c.args.plan)) c.requires.sound) in
    let many = c.berths-berths.ensures in
    omega (arith, few, many)

pub invariant_of-result : goal.invariant_of-result
invariant_of-result g c =
    let law = g.met.P.Policy in
    let b = g.P.Policy.basis c.args.policy c.args.plan in
    let many = c.berths-berths.ensures in
    let few = law.few_berths b
    (subst Sound (sym (law.plan_is c.args.policy c.args.plan)) c.requires.sound) in
    let stands = new_stands (g.P.Policy.discipline b) (g.P.Policy.stands b) c.args.policy _ c.args.plan
    (law.plan_is c.args.policy c.args.plan) c.requires.begins
    (omega (arith, few)) c.requires.sound refl (2 * c.berths-berths.result)
    c.berths-berths.result (ap (λ n. 2 * n) many) many
    c.in_ok-pool.ensures.0 c.in_ok-pool.ensures.1 c.in_ok-pool.ensures.2
    c.in_ok-ready.ensures.0 c.in_ok-ready.ensures.1 c.in_ok-ready.ensures.2
    c.in_ok-lanes.ensures.0 c.in_ok-lanes.ensures.1 c.in_ok-lanes.ensures.2 c.in_ok-lanes.ensures.3
    refl _ c.in_ok-files.ensures (2 * c.berths-berths.result) (ap (λ n. 2 * n) many) in
    record { basis = b; journal = []; stands = stands }

pub returns : goal.returns
returns g c =
    let law = g.met.P.Policy in
    let b = g.P.Policy.basis c.args.policy c.args.plan in
    let many = c.berths-berths.ensures in
    let few = law.few_berths b
    (subst Sound (sym (law.plan_is c.args.policy c.args.plan)) c.requires.sound) in
    new_stands (g.P.Policy.discipline b) (g.P.Policy.stands b) c.args.policy _ c.args.plan
    (law.plan_is c.args.policy c.args.plan) c.requires.begins
    (omega (arith, few)) c.requires.sound refl (2 * c.berths-berths.result)
    c.berths-berths.result (ap (λ n. 2 * n) many) many
    c.in_ok-pool.ensures.0 c.in_ok-pool.ensures.1 c.in_ok-pool.ensures.2
    c.in_ok-ready.ensures.0 c.in_ok-ready.ensures.1 c.in_ok-ready.ensures.2
    c.in_ok-lanes.ensures.0 c.in_ok-lanes.ensures.1 c.in_ok-lanes.ensures.2 c.in_ok-lanes.ensures.3
    refl _ c.in_ok-files.ensures (2 * c.berths-berths.result) (ap (λ n. 2 * n) many)
