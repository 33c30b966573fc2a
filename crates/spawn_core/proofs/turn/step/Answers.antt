use Rattle.std.proofs.Common.{false, sym, ◌∙◌, ◌/◌}
use Rattle.spawn_core.specs.News.{served}
use Rattle.spawn_core.specs.Turns.{orders_of}
use Rattle.spawn_core.proofs.Outlooks.{allowed_so, sound_kept}
use Rattle.spawn_core.proofs.Served.{serves}
use Rattle.spawn_core.proofs.Stepped.{reply_out, reply_none}
use Rattle.spawn_core.proofs.turn.step.Goals as goal
use Rattle.spawn_core.proofs.turn.step.Goals.{in_default-via-in-Some+else-may_make, in_default-via-in_default}

pub seat-requires : goal.seat-requires
seat-requires g c = let h = c.requires in
    g.met.P.Policy.reads_are h.basis c.args.policy.now c.args.state.now h.journal h.stands h.own

pub may_make-requires : goal.may_make-requires
may_make-requires g c = let h = c.requires in
    sound_kept (g.P.Policy.discipline h.basis) c.args.state.now h.journal h.stands

pub in_script-requires-clause-seated : goal.in_script-requires-clause-seated
in_script-requires-clause-seated g c = sym c.seat.ensures ∙ c.in-Some.is

pub in_script-requires-clause-allowed : goal.in_script-requires-clause-allowed
in_script-requires-clause-allowed g c = sym c.may_make.ensures ∙ c.if-may_make.true

pub returns-in_default-clause-reply : goal.returns-in_default-clause-reply
returns-in_default-clause-reply g c = λ b j st.
    let law = g.met.P.Policy in let m = c.args.policy.now in let s = c.args.state.now in
    let q = g.P.Policy.discipline b in
    let v = serves g.P.Policy.discipline g.P.Policy.stands g.P.Policy.seated g.P.Policy.chosen
    g.P.Policy.ticked law.is_discipline law.seats_are law.choices_are law.ticks_are b m s j
    (record { tables = st.tables; legal = st.legal }) st.own in
    elim c.in_default.branch [
      | in_default-via-in-Some+else-may_make w ↦ reply_out q s j c.args.lane w.in-Some.seat
          (orders_of g.P.Policy.chosen g.P.Policy.ticked m s c.args.lane) c.args.call.now st.tables
          (served q s j (g.P.Policy.seated m s) (g.P.Policy.chosen m s) (g.P.Policy.ticked m s) v
          c.args.lane w.in-Some.seat (sym c.seat.ensures ∙ w.in-Some.is))
          (allowed_so g.P.Policy.discipline g.P.Policy.basis m s j b st.tables
          (law.basis_is b m j st.own) w.in-Some.seat.kind c.args.lane c.args.call.now false
          (sym w.may_make.ensures ∙ w.if-may_make.false))
      | in_default-via-in_default w ↦ reply_none q j c.args.lane c.args.call.now
          (g.P.Policy.seated m s (c.args.lane / 2)) (v.seats (c.args.lane / 2))
          (sym c.seat.ensures ∙ w.in_default.is)
    ]
