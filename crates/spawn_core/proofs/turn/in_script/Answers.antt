use Rattle.std.proofs.Common.{◌<◌, ◌/◌, true, length, subst, sym, ◌∙◌}
use Rattle.exec_journal.specs.declared.reply.Reply.{Reply}
use Rattle.exec_journal.specs.Legal.{after}
use Rattle.core_state.specs.declared.state.State.{State}
use Rattle.core_state.specs.Noted.{noted_if_kept}
use Rattle.core_tables.specs.Slots.{Follows}
use Rattle.spawn_core.specs.Answers.{Replies, answer_by}
use Rattle.spawn_core.specs.News.{served}
use Rattle.spawn_core.specs.Stands.{TablesStand}
use Rattle.spawn_core.specs.Turns.{orders_of, turned, turned_reply}
use Rattle.spawn_core.specs.Policies.{StandsBy}
use Rattle.spawn_core.proofs.Outlooks.{allowed_so, goes_by}
use Rattle.spawn_core.proofs.Served.{serves}
use Rattle.spawn_core.proofs.Turned.{berth_turn, can_turn, lane_turn, legal_then, look_reply, look_stands, reply_turn, stands_turn, tables_turn, unlook, within_turn}
use Rattle.spawn_core.proofs.turn.in_script.Goals as goal

pub returns-in-Look-clause-reply : goal.returns-in-Look-clause-reply
returns-in-Look-clause-reply g c = λ b j st. let law = g.met.P.Policy in
    look_reply _ _ _ _ j _ _ _ _ _ _ st
    (served _ _ j _ _ _ (serves _ _ g.P.Policy.seated g.P.Policy.chosen g.P.Policy.ticked
    law.is_discipline law.seats_are law.choices_are law.ticks_are b _ _ j
    (record { tables = st.tables; legal = st.legal }) st.own) _ _ c.requires.seated)
    (allowed_so g.P.Policy.discipline g.P.Policy.basis _ _ j b st.tables
    (law.basis_is b _ j st.own) _ c.args.lane _ true c.requires.allowed) c.in-Look.is
    c.look.ensures

pub returns-in-Look-clause-stands : goal.returns-in-Look-clause-stands
returns-in-Look-clause-stands g c = λ b j st. let law = g.met.P.Policy in
    look_stands _ _ _ _ j _ _ _ _ _ _ st
    (served _ _ j _ _ _ (serves _ _ g.P.Policy.seated g.P.Policy.chosen g.P.Policy.ticked
    law.is_discipline law.seats_are law.choices_are law.ticks_are b _ _ j
    (record { tables = st.tables; legal = st.legal }) st.own) _ _ c.requires.seated)
    (allowed_so g.P.Policy.discipline g.P.Policy.basis _ _ j b st.tables
    (law.basis_is b _ j st.own) _ c.args.lane _ true c.requires.allowed) c.in-Look.is
    c.look.ensures

pub make-reply-requires : goal.make-reply-requires
make-reply-requires g c =
    let law = g.met.P.Policy in let m = c.args.policy.now in let s = c.args.state.now in
    let lane = c.args.lane in let seat = c.args.seat in let call = c.args.call.now in
    let seated = c.requires.seated in
    let x = orders_of g.P.Policy.chosen g.P.Policy.ticked m s lane in
    let h = c.requires.journal in
    let q = g.P.Policy.discipline h.basis in
    let quiet = unlook call c.in_default.not-Look in
    let v = served q s h.journal _ _ _ (serves _ _ g.P.Policy.seated g.P.Policy.chosen
    g.P.Policy.ticked law.is_discipline law.seats_are law.choices_are law.ticks_are h.basis m s
    h.journal h.stands h.own) lane seat seated in
    let may = allowed_so g.P.Policy.discipline g.P.Policy.basis m s h.journal h.basis
    h.stands.tables (law.basis_is h.basis m h.journal h.own) seat.kind lane call true
    c.requires.allowed in
    let same = goes_by g.P.Policy.discipline g.P.Policy.basis m s h.journal h.basis h.stands.tables
    (law.basis_is h.basis m h.journal h.own) in
    record {
      there = law.reads_are h.basis m s h.journal h.stands h.own;
      berth = subst (λ b. lane / 2 < (g.P.Policy.discipline b).seats) (sym same)
          (within_turn q s h.journal lane seat x call h.stands.tables h.stands.legal v quiet may);
      can = can_turn q s h.journal lane seat x call h.stands.tables h.stands.legal v quiet may;
      no_look = quiet;
    }

pub note-requires : goal.note-requires
note-requires g c =
    let law = g.met.P.Policy in let m = c.args.policy.now in let s = c.args.state.now in
    let lane = c.args.lane in let seat = c.args.seat in let call = c.args.call.now in
    let seated = c.requires.seated in
    let x = orders_of g.P.Policy.chosen g.P.Policy.ticked m s lane in
    let h = c.requires.journal in
    let q = g.P.Policy.discipline h.basis in
    let quiet = unlook call c.in_default.not-Look in
    let v = served q s h.journal _ _ _ (serves _ _ g.P.Policy.seated g.P.Policy.chosen
    g.P.Policy.ticked law.is_discipline law.seats_are law.choices_are law.ticks_are h.basis m s
    h.journal h.stands h.own) lane seat seated in
    let may = allowed_so g.P.Policy.discipline g.P.Policy.basis m s h.journal h.basis
    h.stands.tables (law.basis_is h.basis m h.journal h.own) seat.kind lane call true
    c.requires.allowed in
    let state = sym c.make-reply.ensures.state in
    record {
      lane = subst (λ (x : State). lane < length x.lanes) state
          (lane_turn q s h.journal lane seat x call h.stands.tables h.stands.legal v quiet may);
      berth = subst (λ (x : State). lane / 2 < length x.greetings) state
          (berth_turn q s h.journal lane seat x call h.stands.tables h.stands.legal v quiet may);
    }

pub returns : goal.returns
returns g c =
    let law = g.met.P.Policy in let m = c.args.policy.now in let s = c.args.state.now in
    let lane = c.args.lane in let seat = c.args.seat in let call = c.args.call.now in
    let seated = c.requires.seated in
    let x = orders_of g.P.Policy.chosen g.P.Policy.ticked m s lane in
    let quiet = unlook call c.in_default.not-Look in
    let state = c.make-reply.ensures.state in
    let reply = c.make-reply.ensures.reply in
    let told : Reply = turned_reply s lane seat x call in
    let followed = subst (λ (y : Reply). Follows (turned s lane seat x call).plan call y
    c.args.files.now c.keep.new.self) reply
    (subst (λ (x : State). Follows x.plan call c.make-reply.result c.args.files.now
    c.keep.new.self) state c.keep.ensures) in
    record {
      basis = c.note-2.ensures.basis;
      reply = λ b j st.
          let v = served _ s j _ _ _ (serves _ _ g.P.Policy.seated g.P.Policy.chosen
          g.P.Policy.ticked law.is_discipline law.seats_are law.choices_are law.ticks_are b m s j
          (record { tables = st.tables; legal = st.legal }) st.own) lane seat seated in
          let may = allowed_so g.P.Policy.discipline g.P.Policy.basis m s j b st.tables
          (law.basis_is b m j st.own) seat.kind lane call true c.requires.allowed in
          subst (Replies (answer_by (g.P.Policy.discipline b) j lane call)) (sym reply)
          (reply_turn (g.P.Policy.discipline b) s j lane seat x call st.tables st.legal v quiet may);
      stands = λ b j st.
          let q = g.P.Policy.discipline b in
          let v = served _ s j _ _ _ (serves _ _ g.P.Policy.seated g.P.Policy.chosen
          g.P.Policy.ticked law.is_discipline law.seats_are law.choices_are law.ticks_are b m s j
          (record { tables = st.tables; legal = st.legal }) st.own) lane seat seated in
          let may = allowed_so g.P.Policy.discipline g.P.Policy.basis m s j b st.tables
          (law.basis_is b m j st.own) seat.kind lane call true c.requires.allowed in
          let same = sym (c.note.ensures ∙ (λ i. noted_if_kept (state i) lane call (reply i))) in
          let legal = legal_then q s j lane seat x call st.tables st.legal v quiet may in
          let now : StandsBy q c.note.new.self (after j lane call c.make-reply.result) =
          subst (λ (x : State). StandsBy q x (after j lane call c.make-reply.result)) same
          (subst (λ (y : Reply). StandsBy q (noted_if_kept (turned s lane seat x call) lane call told)
          (after j lane call y)) (sym reply) (record {
            tables = tables_turn q s j lane seat x call st.tables st.legal v quiet may;
            legal = legal;
          })) in
          let noted = c.note-2.ensures.stands b j st.own now in
          subst (λ (x : State). TablesStand q (g.P.Policy.stands b c.note-2.new.self) x
          c.keep.new.self (after j lane call c.make-reply.result))
          same
          (subst (λ (y : Reply). TablesStand q (g.P.Policy.stands b c.note-2.new.self)
          (noted_if_kept (turned s lane seat x call) lane call told) c.keep.new.self
          (after j lane call y)) (sym reply)
          (stands_turn q s j lane seat x call st.tables st.legal v quiet may
          c.args.files.now c.keep.new.self st.kept followed
          (g.P.Policy.stands b c.note-2.new.self)
          (subst (λ (y : Reply). g.P.Policy.stands b c.note-2.new.self (after j lane call y)) reply
          noted)));
    }
