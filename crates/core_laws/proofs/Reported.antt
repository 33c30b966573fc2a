-- What a report that ends no attempt makes of a state that stands for a journal.
use Rattle.std.proofs.Common.{◌≡◌, ℕ, ◌/◌, ◌==◌, nat_lt, Bool, true, false, cond, List, ◌∷◌, Option, Some, None, option_map, refl, ap, sym, subst, ◌∙◌}
use Rattle.std.specs.Prelude.{slice_get}
use Rattle.std.proofs.lemmas.Bool.{eqb-true, eq-eqb}
use Rattle.run_plan.specs.declared.plan.Plan.{Plan}
use Rattle.exec_journal.specs.declared.attempt.Attempt.{Attempt}
use Rattle.exec_journal.specs.Entry.{Entry}
use Rattle.exec_journal.specs.declared.call.Call.TheVariants as call
use Rattle.exec_journal.specs.declared.call.Started.TheVariants as start
use Rattle.exec_journal.specs.declared.reply.Reply.TheVariants as reply
use Rattle.exec_journal.specs.Facts.{OfBerth, IsOfBerth}
use Rattle.list_lemmas.specs.Options.{or_else}
use Rattle.exec_journal.specs.Rules.{gathered}
use Rattle.list_lemmas.specs.Places.{update}
use Rattle.exec_journal.specs.Words.{halted, last_line, launch_of, line_cause, was_taken, sends, wrote, granted, grant_of}
use Rattle.exec_journal.proofs.Lines.{last_line_own, lines_named}
use Rattle.exec_journal.proofs.Ruled.{by_bool}
use Rattle.list_lemmas.proofs.Updates.{get_update}
use Rattle.worker_pool.proofs.Lives.{starts_kept, start_actions, kills_kept, kill_actions}
use Rattle.request_table.proofs.Kept as asks
use Rattle.cancel_rules.proofs.Followed as marks
use Rattle.core_tables.specs.declared.last.LastLine.{LastLine}
use Rattle.core_state.specs.declared.state.State.{State}
use Rattle.core_tables.specs.Last.{last_in, row_of, fed_of, set_taken}
use Rattle.core_state.specs.Machine.{killed_with, launched_with, taken_with}
use Rattle.core_state.specs.Noted.{noted_after}
use Rattle.core_laws.specs.Stands.{Stands, MayCall}
use Rattle.core_laws.proofs.Own.{lanes_kept, last_kept, matches_kept, IsQuiet, SpendsNone, ready_kept, race_kept, attempts_kept}
use Rattle.core_laws.proofs.Orders.{quiet_stands, own_stands}
use Rattle.core_laws.proofs.Greeted.{quiet_greetings}
use Rattle.exec_journal.specs.Lawful.{plain_reply, Counts}

module _ (p : Plan) (seats : ℕ) (s : State) (j : List Entry) (lane : ℕ) (st : Stands p seats s j) where
  -- ---- Killed

  module _ (l : ℕ) (may : MayCall p seats j lane (call.Killed l)) where
    abbrev killed_entry : Entry
    killed_entry = record { lane = lane; call = call.Killed l; reply = reply.Noted }

    killed_quiet : IsQuiet seats j killed_entry
    unfolding wrote
    killed_quiet = record {
      no_launch = refl;
      no_send = refl;
      no_take = λ m. refl;
      no_break = λ m. refl;
      no_feed = λ t. refl;
    }

    killed_spends : SpendsNone seats j killed_entry
    unfolding wrote granted grant_of gathered
    killed_spends = record { no_send = refl; no_match = refl; same = λ t. refl }

    pub killed_stands : Stands p seats (noted_after (killed_with s l) lane (call.Killed l) reply.Noted)
        (killed_entry ∷ j)
    unfolding halted
    killed_stands = record {
      plan = st.plan;
      sound = st.sound;
      lawful = (st.lawful, record { scripted = may.scripted; told = refl; kept = refl });
      seated = (st.seated, may.berth);
      few = st.few;
      pool = kills_kept p seats s.pool j lane l st.pool;
      requests = asks.others p s.requests j killed_entry st.requests refl refl;
      cancels = marks.others p s.cancels j killed_entry st.cancels refl refl refl;
      ready = ready_kept p j killed_entry (kill_actions p seats s.pool j lane l st.pool) refl s.ready
          st.ready;
      race = race_kept p j killed_entry (kill_actions p seats s.pool j lane l st.pool) refl s.race
          st.race;
      attempts = attempts_kept p j killed_entry (kill_actions p seats s.pool j lane l st.pool) refl
          s.attempts st.attempts;
      lanes = lanes_kept seats j killed_entry s.lanes st.lanes;
      greetings = quiet_greetings seats j killed_entry refl refl s.greetings st.greetings;
      last = last_kept seats j killed_entry killed_quiet s.last st.last;
      matches = matches_kept seats j killed_entry killed_spends s.matches st.matches;
      halted = st.halted;
    }

  -- ---- Launched with Done

  module _ (l : ℕ) (may : MayCall p seats j lane (call.Launched l start.Done)) where
    abbrev started_entry : Entry
    started_entry = record { lane = lane; call = call.Launched l start.Done; reply = reply.Noted }

    started_quiet : IsQuiet seats j started_entry
    unfolding wrote
    started_quiet = record {
      no_launch = refl;
      no_send = refl;
      no_take = λ m. refl;
      no_break = λ m. refl;
      no_feed = λ t. refl;
    }

    started_spends : SpendsNone seats j started_entry
    unfolding wrote granted grant_of gathered
    started_spends = record { no_send = refl; no_match = refl; same = λ t. refl }

    pub started_stands : Stands p seats (noted_after (launched_with s lane l start.Done) lane
        (call.Launched l start.Done) reply.Noted) (started_entry ∷ j)
    unfolding halted
    started_stands = record {
      plan = st.plan;
      sound = st.sound;
      lawful = (st.lawful, record { scripted = may.scripted; told = refl; kept = refl });
      seated = (st.seated, may.berth);
      few = st.few;
      pool = starts_kept p seats s.pool j lane l st.pool;
      requests = asks.others p s.requests j started_entry st.requests refl refl;
      cancels = marks.others p s.cancels j started_entry st.cancels refl refl refl;
      ready = ready_kept p j started_entry (start_actions p seats s.pool j lane l st.pool) refl s.ready
          st.ready;
      race = race_kept p j started_entry (start_actions p seats s.pool j lane l st.pool) refl s.race
          st.race;
      attempts = attempts_kept p j started_entry (start_actions p seats s.pool j lane l st.pool) refl
          s.attempts st.attempts;
      lanes = lanes_kept seats j started_entry s.lanes st.lanes;
      greetings = quiet_greetings seats j started_entry refl refl s.greetings st.greetings;
      last = last_kept seats j started_entry started_quiet s.last st.last;
      matches = matches_kept seats j started_entry started_spends s.matches st.matches;
      halted = st.halted;
    }

  -- ---- Halt

  module _ (may : MayCall p seats j lane call.Halt) where
    abbrev halt_entry : Entry
    halt_entry = record { lane = lane; call = call.Halt; reply = reply.Noted }

    halt_quiet : IsQuiet seats j halt_entry
    unfolding wrote
    halt_quiet = record {
      no_launch = refl;
      no_send = refl;
      no_take = λ m. refl;
      no_break = λ m. refl;
      no_feed = λ t. refl;
    }

    halt_spends : SpendsNone seats j halt_entry
    unfolding wrote granted grant_of gathered
    halt_spends = record { no_send = refl; no_match = refl; same = λ t. refl }

    pub halt_stands : Stands p seats (noted_after s lane call.Halt reply.Noted) (halt_entry ∷ j)
    halt_stands = quiet_stands p seats s j halt_entry st (record {
      scripted = may.scripted;
      told = refl;
      kept = refl;
    }) may.berth refl refl refl refl refl refl (quiet_greetings seats j halt_entry refl refl
        s.greetings st.greetings) halt_quiet halt_spends

  -- ---- Tick

  module _ (may : MayCall p seats j lane call.Tick) where
    abbrev tick_entry : Entry
    tick_entry = record { lane = lane; call = call.Tick; reply = reply.Noted }

    tick_quiet : IsQuiet seats j tick_entry
    unfolding wrote
    tick_quiet = record {
      no_launch = refl;
      no_send = refl;
      no_take = λ m. refl;
      no_break = λ m. refl;
      no_feed = λ t. refl;
    }

    tick_spends : SpendsNone seats j tick_entry
    unfolding wrote granted grant_of gathered
    tick_spends = record { no_send = refl; no_match = refl; same = λ t. refl }

    pub tick_stands : Stands p seats (noted_after s lane call.Tick reply.Noted) (tick_entry ∷ j)
    tick_stands = quiet_stands p seats s j tick_entry st (record {
      scripted = may.scripted;
      told = Counts;
      kept = refl;
    }) may.berth refl refl refl refl refl refl (quiet_greetings seats j tick_entry refl refl
        s.greetings st.greetings) tick_quiet tick_spends

  -- ---- Take

  module _ (l : ℕ) (may : MayCall p seats j lane call.Take) (here : last_line j (lane / 2) ≡ Some l)
      (is : reply.Line l ≡ plain_reply p j lane call.Take) where
    abbrev take_entry : Entry
    take_entry = record { lane = lane; call = call.Take; reply = reply.Line l }

    take_spends : SpendsNone seats j take_entry
    unfolding wrote granted grant_of gathered
    take_spends = record { no_send = refl; no_match = refl; same = λ t. refl }

    owned : (v : ℕ) (k : ℕ) → last_line j v ≡ Some k → IsOfBerth j k v
    owned v k h = subst (λ (o : Option ℕ). OfBerth j o v) h
        (last_line_own v j (lines_named p j st.lawful))

    abbrev lane_in : Option (ℕ × Attempt) → ℕ
    lane_in (Some x) = x.0
    lane_in None = 0

    -- a line is of one berth
    one_berth : (v : ℕ) → last_line j v ≡ Some l → lane / 2 ≡ v
    one_berth v h =
        let a = owned (lane / 2) l here in
        let b = owned v l h in
        let same = ap lane_in (sym a.owner.2 ∙ b.owner.2) in
        sym a.owner.3 ∙ ap (λ n. n / 2) same ∙ b.owner.3

    taken_row : (k : ℕ) (b : Bool) → (l == k) ≡ b → row_of (take_entry ∷ j) (Some k) ≡ cond b
        (set_taken (row_of j (Some k))) (row_of j (Some k))
    unfolding launch_of was_taken line_cause fed_of sends wrote
    taken_row k true h = rw h refl
    taken_row k false h = rw h refl

    taken_by : (v : ℕ) (o : Option ℕ) (b known : Bool) → last_line j v ≡ o → (lane / 2 == v) ≡ b
        → cond b (option_map set_taken (cond known (Some (row_of j o)) None))
        (cond known (Some (row_of j o)) None) ≡ cond known
        (Some (row_of (take_entry ∷ j) o)) None
    taken_by v o true false h e = refl
    taken_by v o false false h e = refl
    taken_by v None false true h e = refl
    taken_by v None true true h e = absurd (let same = eqb-true (lane / 2) v e in
        let k = sym here ∙ ap (last_line j) same ∙ h in cc)
    taken_by v (Some k) true true h e =
        let same = eqb-true (lane / 2) v e in
        let line : l ≡ k = (let q = sym here ∙ ap (last_line j) same ∙ h in cc) in
        ap Some (sym (taken_row k true (eq-eqb l k line)))
    taken_by v (Some k) false true h e =
        ap Some (sym (taken_row k false (by_bool (l == k) (λ b. (l == k) ≡ b → (l == k) ≡ false)
        (λ yes q. absurd (let line = eqb-true l k yes in let w =
        one_berth v (h ∙ ap Some (sym line)) in let z = eq-eqb (lane / 2) v w in cc))
        (λ no q. q) refl)))

    no_line : (w : ℕ) (b : Bool) → or_else (cond b None None) (last_line j w) ≡ last_line j w
    no_line w true = refl
    no_line w false = refl

    taken_is : (v : ℕ) → slice_get (update set_taken s.last (lane / 2)) v ≡ last_in seats
        (take_entry ∷ j) v
    unfolding last_in last_line
    taken_is v =
        get_update set_taken s.last (lane / 2) v
        ∙ ap (λ (o : Option LastLine). cond (lane / 2 == v) (option_map set_taken o) o) (st.last v)
        ∙ taken_by v (last_line j v) (lane / 2 == v) (nat_lt v seats) refl refl
        ∙ ap (λ o. cond (nat_lt v seats) (Some (row_of (take_entry ∷ j) o)) None)
        (sym (no_line v (lane / 2 == v)))

    pub take_stands : Stands p seats (noted_after (taken_with s (lane / 2) (Some l)) lane call.Take
        (reply.Line l)) (take_entry ∷ j)
    take_stands = own_stands p seats s j take_entry st (record {
      scripted = may.scripted;
      told = is;
      kept = refl;
    }) may.berth refl refl refl refl refl refl (quiet_greetings seats j take_entry refl refl
        s.greetings st.greetings) (update set_taken s.last (lane / 2)) s.matches taken_is
        (matches_kept seats j take_entry take_spends s.matches st.matches)
