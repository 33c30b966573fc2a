use Rattle.std.proofs.Common.{ℕ, ◌*◌, [], ap, sym, subst, ◌∙◌}
use Rattle.run_plan.specs.declared.plan.Plan.{Plan}
use Rattle.spawn_core.specs.Stands.{StandsIn}
use Rattle.journal_audit.proofs.asked.core_with.Goals as goal

pub returns : goal.returns
returns g c = λ line ready.
    let policy = c.args.policy in
    let basis = g.P.Policy.basis policy in
    let b = basis c.args.plan in
    record {
      basis = b;
      spelled = ready.spelled;
      sound = ready.sound;
      plan_sound = ready.plan_sound;
      plan_is = sym (g.met.P.Opens.plan_fits b ∙ g.met.P.Policy.plan_is policy c.args.plan);
      lanes_are = ap (λ (n : ℕ). 2 * n) c.berths-lanes.ensures ∙ sym (g.met.P.Opens.lanes_fit b);
      stood = subst (λ (p : Plan). StandsIn (g.P.Policy.discipline (basis p)) (g.P.Policy.stands (basis p)) c.in_ok-core.core []) ready.twin_is c.in_ok-core.ensures;
    }
