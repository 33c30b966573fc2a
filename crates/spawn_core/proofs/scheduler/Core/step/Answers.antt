use Rattle.std.proofs.Common.{arith, refl, subst, sym}
use Rattle.exec_journal.specs.Legal.{after}
use Rattle.spawn_core.specs.Stands.{KeptBy, StandsIn}
use Rattle.spawn_core.proofs.Counted.{enough, few, history_next, stands_next}
use Rattle.spawn_core.proofs.Outlooks.{journal_kept, tables_kept}
use Rattle.spawn_core.proofs.Promised.{completes, orderly, stops}
use Rattle.spawn_core.proofs.scheduler.Core.step.Goals as goal

pub lane_owes-before-requires : goal.lane_owes-before-requires
lane_owes-before-requires g c =
    tables_kept g.P.Policy.discipline g.P.Policy.stands _ c.self.invariant

pub step-reply-requires : goal.step-reply-requires
step-reply-requires g c =
    journal_kept g.P.Policy.discipline g.P.Policy.stands _ c.self.invariant

pub lane_owes-after-requires : goal.lane_owes-after-requires
lane_owes-after-requires g c = let h = c.self.invariant in
    let next = c.step-reply.ensures.stands h.basis h.journal h.stands.both in record {
      plan = (g.P.Policy.discipline h.basis).plan;
      seats = (g.P.Policy.discipline h.basis).seats;
      journal = after h.journal c.args.lane c.args.call.now c.step-reply.result;
      stands = next.tables;
    }

pub overflow_sub-self : goal.overflow_sub-self
overflow_sub-self g c =
    enough _ _ _ _ _ _ _ _ _ _ _ c.step-reply.ensures.stands
    (record { owed = c.lane_owes-before.ensures.owes; none = c.lane_owes-before.ensures.none })
    (record { owed = c.lane_owes-after.ensures.owes; none = c.lane_owes-after.ensures.none })
    c.self.invariant

pub overflow_add-self : goal.overflow_add-self
overflow_add-self g c =
    let fits = few _ _ _ _ _ _ _ _ _ _ _ c.step-reply.ensures.stands
    (record { owed = c.lane_owes-before.ensures.owes; none = c.lane_owes-before.ensures.none })
    (record { owed = c.lane_owes-after.ensures.owes; none = c.lane_owes-after.ensures.none })
    c.self.invariant in
    omega (arith, fits)

pub invariant_of-self : goal.invariant_of-self
invariant_of-self g c =
    history_next _ _ _ _ _ _ _ _ _ _ _ c.step-reply.ensures.stands
    (record { owed = c.lane_owes-before.ensures.owes; none = c.lane_owes-before.ensures.none })
    (record { owed = c.lane_owes-after.ensures.owes; none = c.lane_owes-after.ensures.none })
    _ refl c.self.invariant

pub returns-clause-stands : goal.returns-clause-stands
returns-clause-stands g c = λ b j st.
    let here = subst (λ (k : KeptBy g.row.P.Denot). StandsIn (g.P.Policy.discipline b)
    (g.P.Policy.stands b) k j) (sym c.self.view_is) st in
    stands_next _ g.P.Policy.stands _ c.step-reply.new.policy c.step-reply.new.state _ _ _
    _ _ _ c.step-reply.ensures.stands
    (record { owed = c.lane_owes-before.ensures.owes; none = c.lane_owes-before.ensures.none })
    (record { owed = c.lane_owes-after.ensures.owes; none = c.lane_owes-after.ensures.none })
    _ refl b j here

pub returns-clause-orderly : goal.returns-clause-orderly
returns-clause-orderly g c = λ b j st. let law = g.met.P.Policy in
    orderly (g.P.Policy.discipline b) (law.is_discipline b) (g.P.Policy.kept b) j
    st.both.tables.sound st.both.legal (law.kept_is b j st.both.tables.sound st.both.legal)

pub returns-clause-stop : goal.returns-clause-stop
returns-clause-stop g c = λ b j st told none. let law = g.met.P.Policy in
    let here = subst (λ (k : KeptBy g.row.P.Denot). StandsIn (g.P.Policy.discipline b)
    (g.P.Policy.stands b) k j) (sym c.self.view_is) st in
    stops (g.P.Policy.discipline b) (law.is_discipline b) j c.args.lane c.args.call.now
    c.step-reply.result st.both.tables.sound st.both.legal
    (c.step-reply.ensures.reply b j here.both) told none

pub returns-clause-complete : goal.returns-clause-complete
returns-clause-complete g c = λ b j st told none clean. let law = g.met.P.Policy in
    let here = subst (λ (k : KeptBy g.row.P.Denot). StandsIn (g.P.Policy.discipline b)
    (g.P.Policy.stands b) k j) (sym c.self.view_is) st in
    completes (g.P.Policy.discipline b) (law.is_discipline b) j c.args.lane c.args.call.now
    c.step-reply.result st.both.tables.sound st.both.legal
    (c.step-reply.ensures.reply b j here.both) told none clean
