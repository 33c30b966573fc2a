-- What a Breach and a whole Wrote make of a state that stands for a journal.
use Rattle.std.proofs.Common.{◌≡◌, ℕ, ◌/◌, ◌==◌, nat_lt, Bool, true, false, ◌||◌, cond, List, ◌∷◌, Option, Some, None, option_map, refl, ap, sym, subst, ◌∙◌}
use Rattle.std.specs.Prelude.{slice_get, ℤ}
use Rattle.std.proofs.lemmas.Bool.{eqb-true, eq-eqb}
use Rattle.run_plan.specs.declared.plan.Plan.{Plan}
use Rattle.exec_journal.specs.declared.attempt.Attempt.{Attempt}
use Rattle.exec_journal.specs.Entry.{Entry}
use Rattle.exec_journal.specs.declared.call.Call.TheVariants as call
use Rattle.exec_journal.specs.declared.call.Answer.{Answer}
use Rattle.exec_journal.specs.declared.call.Written.{Written}
use Rattle.exec_journal.specs.declared.call.Written.TheVariants as write
use Rattle.exec_journal.specs.declared.ends.Cause.{Cause}
use Rattle.exec_journal.specs.declared.ends.Cause.TheVariants as cause
use Rattle.exec_journal.specs.declared.reply.BreachWhy.{BreachWhy}
use Rattle.exec_journal.specs.Entries.{Request, same_attempt}
use Rattle.exec_journal.specs.declared.reply.Reply.TheVariants as reply
use Rattle.exec_journal.specs.Facts.{SameActions, OfBerth, IsOfBerth}
use Rattle.list_lemmas.specs.Options.{or_else, unless_before}
use Rattle.exec_journal.specs.Rules.{gathered}
use Rattle.list_lemmas.specs.Places.{update}
use Rattle.exec_journal.specs.Words.{order_of, wrote_at, wrote_if, halted, last_line, launch_of, line_cause, was_taken, sends, wrote, granted, grant_of}
use Rattle.exec_journal.proofs.Lines.{last_line_own, lines_named}
use Rattle.exec_journal.proofs.Ruled.{by_bool}
use Rattle.list_lemmas.proofs.Updates.{get_update}
use Rattle.worker_pool.proofs.Lives.{breaches_kept, breach_actions}
use Rattle.worker_pool.proofs.Kept.{quiet_kept}
use Rattle.worker_pool.proofs.Words.{quiet_actions, aside_feed}
use Rattle.request_table.proofs.Kept as asks
use Rattle.cancel_rules.proofs.Followed as marks
use Rattle.core_tables.specs.declared.last.LastLine.{LastLine}
use Rattle.core_state.specs.declared.state.State.{State}
use Rattle.core_tables.specs.Last.{last_in, row_of, row_by, fed_of, set_cause}
use Rattle.core_state.specs.Noted.{noted_after}
use Rattle.core_laws.specs.Stands.{Stands, MayCall}
use Rattle.core_laws.proofs.Own.{lanes_kept, last_kept, matches_kept, IsQuiet, SpendsNone, ready_kept, race_kept, attempts_kept}
use Rattle.core_state.specs.Reports.{breached}
use Rattle.call_laws.specs.Matches.{is_faulty}
use Rattle.core_laws.proofs.Greeted.{quiet_greetings, answer_greetings}
use Rattle.exec_journal.specs.Lawful.{plain_reply}

module _ (p : Plan) (seats : ℕ) (s : State) (j : List Entry) (lane l : ℕ) (st : Stands p seats s j) where
  -- ---- a Wrote with Done

  module _ (n : ℤ) (may : MayCall p seats j lane (call.Wrote l n write.Done)) where
    abbrev wrote_entry : Entry
    wrote_entry = record { lane = lane; call = call.Wrote l n write.Done; reply = reply.Noted }

    wrote_quiet : IsQuiet seats j wrote_entry
    wrote_quiet = record {
      no_launch = refl;
      no_send = refl;
      no_take = λ m. refl;
      no_break = λ m. no_cause m (l == m) (order_of j lane);
      no_feed = aside_feed wrote_entry j refl;
    }
      where
        no_cause : (m : ℕ) (b : Bool) (o : Option Request)
            → ◌≡◌ {A = Option Cause} (cond b None None) None
        no_cause m true o = refl
        no_cause m false o = refl

    whole : (t : Attempt) (o : Option Request) → is_faulty
        (wrote_if t (call.Wrote l n write.Done) o) ≡ false
    whole t None = refl
    whole t (Some q) = by (same_attempt q.attempt t)
      where
        by : (b : Bool) → is_faulty (cond b (Some write.Done) None) ≡ false
        by true = refl
        by false = refl

    faulty_same : (o q : Option Written) → is_faulty o ≡ false
        → is_faulty (unless_before o q) ≡ is_faulty q
    faulty_same None q h = refl
    faulty_same (Some w) None h = h
    faulty_same (Some w) (Some v) h = refl

    wrote_spends : SpendsNone seats j wrote_entry
    unfolding wrote granted grant_of gathered
    wrote_spends = record {
      no_send = refl;
      no_match = refl;
      same = λ t. ap (λ b. gathered j t || (b || granted j t.action))
          (faulty_same (wrote_at t j wrote_entry) (wrote j t) (whole t (order_of j lane)));
    }

    wrote_same : SameActions j (wrote_entry ∷ j)
    wrote_same = quiet_actions wrote_entry j refl refl

    pub wrote_stands : Stands p seats (noted_after s lane (call.Wrote l n write.Done) reply.Noted)
        (wrote_entry ∷ j)
    unfolding halted
    wrote_stands = record {
      plan = st.plan;
      sound = st.sound;
      lawful = (st.lawful, record { scripted = may.scripted; told = refl; kept = refl });
      seated = (st.seated, may.berth);
      few = st.few;
      pool = quiet_kept p seats s.pool j wrote_entry st.pool refl refl;
      requests = asks.done_kept j lane l n write.Done p s.requests st.requests refl;
      cancels = marks.done_kept p s.cancels j lane l n write.Done st.cancels refl;
      ready = ready_kept p j wrote_entry wrote_same refl s.ready st.ready;
      race = race_kept p j wrote_entry wrote_same refl s.race st.race;
      attempts = attempts_kept p j wrote_entry wrote_same refl s.attempts st.attempts;
      lanes = lanes_kept seats j wrote_entry s.lanes st.lanes;
      greetings = quiet_greetings seats j wrote_entry refl refl s.greetings st.greetings;
      last = last_kept seats j wrote_entry wrote_quiet s.last st.last;
      matches = matches_kept seats j wrote_entry wrote_spends s.matches st.matches;
      halted = st.halted;
    }

  -- ---- a Breach that no request is asked for: the line broke before, or the number is wrong

  module _ (x : Answer) (y : BreachWhy) (may : MayCall p seats j lane (call.Answer l x))
      (is : reply.Breach y ≡ plain_reply p j lane (call.Answer l x))
      (here : last_line j (lane / 2) ≡ Some l) where
    abbrev breach_entry : Entry
    breach_entry = record { lane = lane; call = call.Answer l x; reply = reply.Breach y }

    same : SameActions j (breach_entry ∷ j)
    same = breach_actions p seats s.pool j lane l st.pool x y

    spends : SpendsNone seats j breach_entry
    unfolding wrote granted grant_of gathered
    spends = record { no_send = refl; no_match = refl; same = λ t. refl }

    owned : (v : ℕ) (k : ℕ) → last_line j v ≡ Some k → IsOfBerth j k v
    owned v k h = subst (λ (o : Option ℕ). OfBerth j o v) h
        (last_line_own v j (lines_named p j st.lawful))

    abbrev lane_in : Option (ℕ × Attempt) → ℕ
    lane_in (Some z) = z.0
    lane_in None = 0

    one_berth : (v : ℕ) → last_line j v ≡ Some l → lane / 2 ≡ v
    one_berth v h =
        let a = owned (lane / 2) l here in
        let b = owned v l h in
        let even = ap lane_in (sym a.owner.2 ∙ b.owner.2) in
        sym a.owner.3 ∙ ap (λ m. m / 2) even ∙ b.owner.3

    cause_more : (c : Cause) (o : Option Cause) → unless_before (Some c) o ≡ or_else o (Some c)
    cause_more c None = refl
    cause_more c (Some d) = refl

    broken_row : (k : ℕ) (b : Bool) → (l == k) ≡ b → row_of (breach_entry ∷ j) (Some k) ≡ cond b
        (set_cause cause.Breach (row_of j (Some k))) (row_of j (Some k))
    unfolding launch_of was_taken line_cause fed_of sends wrote
    broken_row k true h = rw h (ap (λ c. row_by (option_map (λ z. z.1) (launch_of j k))
        (was_taken j k) c (fed_of j k)) (cause_more cause.Breach (line_cause j k)))
    broken_row k false h = rw h refl

    broken_by : (v : ℕ) (o : Option ℕ) (b known : Bool) → last_line j v ≡ o → (lane / 2 == v) ≡ b
        → cond b (option_map (set_cause cause.Breach) (cond known (Some (row_of j o)) None))
        (cond known (Some (row_of j o)) None) ≡ cond known
        (Some (row_of (breach_entry ∷ j) o)) None
    broken_by v o true false h e = refl
    broken_by v o false false h e = refl
    broken_by v None false true h e = refl
    broken_by v None true true h e = absurd (let even = eqb-true (lane / 2) v e in
        let k = sym here ∙ ap (last_line j) even ∙ h in cc)
    broken_by v (Some k) true true h e =
        let even = eqb-true (lane / 2) v e in
        let line : l ≡ k = (let q = sym here ∙ ap (last_line j) even ∙ h in cc) in
        ap Some (sym (broken_row k true (eq-eqb l k line)))
    broken_by v (Some k) false true h e =
        ap Some (sym (broken_row k false (by_bool (l == k) (λ b. (l == k) ≡ b → (l == k) ≡ false)
        (λ yes q. absurd (let line = eqb-true l k yes in let w =
        one_berth v (h ∙ ap Some (sym line)) in let z = eq-eqb (lane / 2) v w in cc))
        (λ ne q. q) refl)))

    no_line : (w : ℕ) (b : Bool) → or_else (cond b None None) (last_line j w) ≡ last_line j w
    no_line w true = refl
    no_line w false = refl

    last_is : (v : ℕ) → slice_get (update (set_cause cause.Breach) s.last (lane / 2)) v ≡ last_in seats
        (breach_entry ∷ j) v
    unfolding last_in last_line
    last_is v =
        get_update (set_cause cause.Breach) s.last (lane / 2) v
        ∙ ap (λ (o : Option LastLine). cond (lane / 2 == v)
        (option_map (set_cause cause.Breach) o) o) (st.last v)
        ∙ broken_by v (last_line j v) (lane / 2 == v) (nat_lt v seats) refl refl
        ∙ ap (λ o. cond (nat_lt v seats) (Some (row_of (breach_entry ∷ j) o)) None)
        (sym (no_line v (lane / 2 == v)))

    pub breach_stands : Stands p seats (noted_after (breached s (lane / 2) l) lane (call.Answer l x)
        (reply.Breach y)) (breach_entry ∷ j)
    unfolding halted
    breach_stands = record {
      plan = st.plan;
      sound = st.sound;
      lawful = (st.lawful, record { scripted = may.scripted; told = is; kept = refl });
      seated = (st.seated, may.berth);
      few = st.few;
      pool = breaches_kept p seats s.pool j lane l st.pool x y;
      requests = asks.others p s.requests j breach_entry st.requests refl refl;
      cancels = marks.others p s.cancels j breach_entry st.cancels refl refl refl;
      ready = ready_kept p j breach_entry same refl s.ready st.ready;
      race = race_kept p j breach_entry same refl s.race st.race;
      attempts = attempts_kept p j breach_entry same refl s.attempts st.attempts;
      lanes = lanes_kept seats j breach_entry s.lanes st.lanes;
      greetings = answer_greetings p seats s j lane l x (reply.Breach y) st here refl;
      last = last_is;
      matches = matches_kept seats j breach_entry spends s.matches st.matches;
      halted = st.halted;
    }
