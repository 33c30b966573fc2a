-- What each call but a Look makes of a state that stands for a journal, and its reply.
use Rattle.std.proofs.Common.{◌≡◌, ℕ, ◌/◌, ◌%◌, ◌<◌, ◌==◌, nat_lt, Bool, true, false, ◌&&◌, ◌||◌, not, cond, List, [], ◌∷◌, length, Option, Some, None, is_some, option_map, ℤ, refl, ap, sym, subst, ◌∙◌}
use Rattle.std.specs.Prelude.{slice_get}
use Rattle.std.specs.Ordering.{int_eq}
use Rattle.std.proofs.lemmas.Bool.{and_parts, eqb-true, eq-eqb}
use Rattle.std.proofs.lemmas.Option.{slice_get_within}
use Rattle.run_plan.specs.declared.plan.Branch.{Branch}
use Rattle.run_plan.specs.declared.plan.Kind.{Kind}
use Rattle.run_plan.specs.declared.plan.Kind.TheVariants as kind
use Rattle.run_plan.specs.declared.plan.Plan.{Plan}
use Rattle.exec_journal.specs.declared.attempt.Attempt.{Attempt}
use Rattle.exec_journal.specs.Entry.{Entry}
use Rattle.exec_journal.specs.declared.call.Call.{Call}
use Rattle.exec_journal.specs.declared.call.Call.TheVariants as call
use Rattle.exec_journal.specs.declared.call.Found.{Found}
use Rattle.exec_journal.specs.declared.call.Found.TheVariants as found
use Rattle.exec_journal.specs.declared.call.Started.{Started}
use Rattle.exec_journal.specs.declared.call.Started.TheVariants as start
use Rattle.exec_journal.specs.declared.call.Written.{Written}
use Rattle.exec_journal.specs.declared.call.Written.TheVariants as write
use Rattle.exec_journal.specs.declared.reply.Reply.{Reply}
use Rattle.exec_journal.specs.declared.reply.Reply.TheVariants as reply
use Rattle.exec_journal.specs.Attempts.{ended, fault_at, start_cause}
use Rattle.exec_journal.specs.Entries.{Request, attempt_of, same_attempt, is_done, is_for, is_kept, launch_of_entry, launch_in, send_of_entry, send_in, is_unwritten}
use Rattle.exec_journal.specs.Facts.{begun}
use Rattle.exec_journal.specs.Lawful.{LawfulEntry, Told, Counts, in_script, plain_reply}
use Rattle.exec_journal.specs.Rules.{gathered}
use Rattle.exec_journal.specs.Scripts.{is_owed, is_owed_after, is_whole_or_fault}
use Rattle.exec_journal.specs.Settled.{bound}
use Rattle.exec_journal.specs.Words.{last_line, last_work, launch_of, order_of, stopped, has_halted, halted, wrote, granted, grant_of, commit_of}
use Rattle.exec_journal.proofs.Begins.{attempts_in_order, attempt_other, begin_in_order, bound_is, launched_begun, same_attempt_eq, same_attempt_refl}
use Rattle.exec_journal.proofs.Ruled.{by_bool}
use Rattle.worker_pool.specs.Entries.{AreFaulted}
use Rattle.worker_pool.specs.Rows as rows
use Rattle.worker_pool.proofs.Answered.{last_is}
use Rattle.worker_pool.proofs.Bound.{faults_unbind}
use Rattle.worker_pool.proofs.Kept.{aside_kept}
use Rattle.worker_pool.proofs.Once.{launched_once}
use Rattle.request_table.proofs.Kept as asks
use Rattle.cancel_rules.proofs.Followed as marks
use Rattle.race_core.proofs.Kept as races
use Rattle.ready_order.specs.Queue as queue
use Rattle.ready_order.specs.Stands as queue-stands
use Rattle.ready_order.proofs.Followed as queues
use Rattle.core_tables.specs.declared.lanes.LaneState.{LaneState}
use Rattle.core_tables.specs.declared.berth_group.BerthGroup.{BerthGroup}
use Rattle.core_state.specs.declared.state.State.{State}
use Rattle.core_state.specs.Choices.{is_over, row_at}
use Rattle.core_tables.specs.Lanes.{lane_in, order_after, order_of_work, state_by}
use Rattle.core_state.specs.Machine.{with_pool, with_end, states_after, order_on, launched_in, launch_by, launched_with, end_of_some, is_won, found_reply, found_with, claim_reply_by, takeable, takes_line, take_reply, taken_on, taken_with}
use Rattle.table_laws.specs.Moments.{EntryFacts, LawfulMore, ClaimsOne}
use Rattle.core_state.specs.Noted.{noted_after}
use Rattle.core_laws.specs.Premises.{EndsTogether}
use Rattle.core_state.specs.Reports.{wrote_with}
use Rattle.core_laws.specs.Stands.{MayCall, SeatFits, Stands}
use Rattle.core_state.specs.Steps.{is_report, made, made_reply}
use Rattle.core_laws.proofs.Breached.{wrote_stands}
use Rattle.core_laws.proofs.Claimed.{lost_stands, again_stands, dropped_stands, claim_is, commit_stands}
use Rattle.core_laws.proofs.Fed.{cancel_fault_stands, feed_fault_stands}
use Rattle.core_laws.proofs.Finished.{ended_stands}
use Rattle.core_laws.proofs.Granted.{granted_stands}
use Rattle.core_laws.proofs.Orders.{quiet_stands}
use Rattle.core_laws.proofs.Own.{lanes_kept, last_kept, matches_kept, IsQuiet, SpendsNone}
use Rattle.core_laws.proofs.Replied.{answer_is, answered_stands, take_is}
use Rattle.core_laws.proofs.Reported.{killed_stands, started_stands, halt_stands, tick_stands, take_stands}
use Rattle.core_laws.proofs.Rowed.{berth_below, berth_of, lane_inside}
use Rattle.core_laws.proofs.Several.{several_counts, several_states, one_test}
use Rattle.core_laws.proofs.Unwritten.{write_fault_stands}
use Rattle.core_laws.proofs.Greeted.{quiet_greetings}

-- ---- a Launched with a fault

order_launches : (x : Reply) → launched_in (order_after x) ≡ option_map (λ y. y.1) (launch_in x)
order_launches (reply.Launch l a b t) = refl
order_launches (reply.Send l n a b t) = refl
order_launches (reply.Cancel l n) = refl
order_launches (reply.Gather l n a b t x v) = refl
order_launches (reply.Kill l y) = refl
order_launches (reply.Line l) = refl
order_launches reply.Stop = refl
order_launches _ = refl

work_launches : (o : Option Entry) → launched_in (order_of_work o) ≡ launch_of_entry o
work_launches None = refl
work_launches (Some e) = order_launches e.reply

pub launch_is : (p : Plan) (seats : ℕ) (s : State) (j : List Entry) (lane : ℕ) (c : Call) → Stands p seats s j
    → MayCall p seats j lane c → launch_by s lane ≡ launch_of_entry (last_work j lane)
unfolding lane_in
launch_is p seats s j lane c st may =
    ap (λ (o : Option LaneState). launched_in (order_on o))
    (st.lanes lane ∙ ap (λ b. cond b (Some (state_by (last_work j lane) (stopped j lane)
    (has_halted j lane))) None) (lane_inside seats lane may.berth))
    ∙ work_launches (last_work j lane)

module _ (p : Plan) (seats : ℕ) (s : State) (j : List Entry) (lane l : ℕ) (how : Started) (st : Stands p seats s j)
    (all : LawfulMore p j) (may : MayCall p seats j lane (call.Launched l how))
    (fault : is_done how ≡ false) where
  abbrev fault_entry : Entry
  fault_entry = record { lane = lane; call = call.Launched l how; reply = reply.Noted }

  fault_joins : LawfulEntry p j fault_entry
  fault_joins = record { scripted = may.scripted; told = refl; kept = refl }

  quiet : IsQuiet seats j fault_entry
  unfolding wrote
  quiet = record {
    no_launch = refl;
    no_send = refl;
    no_take = λ m. refl;
    no_break = λ m. refl;
    no_feed = λ u. refl;
  }

  spends : SpendsNone seats j fault_entry
  unfolding wrote granted grant_of gathered
  spends = record { no_send = refl; no_match = refl; same = λ u. refl }

  same_grant : (a : ℕ) → grant_of (fault_entry ∷ j) a ≡ grant_of j a
  unfolding grant_of
  same_grant a = refl

  same_commit : (a : ℕ) (b : Branch) → commit_of (fault_entry ∷ j) a b ≡ commit_of j a b
  unfolding commit_of
  same_commit a b = refl

  started_some : (h : Started) → is_done h ≡ false → is_some (start_cause h) ≡ true
  started_some start.Done k = absurd (cc)
  started_some start.RoomFault k = refl
  started_some start.LaunchFault k = refl

  module _ (m : ℕ) (t : Attempt) (at : launch_of j l ≡ Some (m, t)) where
    newest : launch_of_entry (last_work j lane) ≡ Some t
    newest = (all.calls lane (call.Launched l how) may.scripted).launches l m how t refl at

    started_at : begun j t ≡ true
    started_at = launched_begun j l m t at

    together : EndsTogether j fault_entry (t ∷ [])
    together = record {
      these = λ u. (all.entries fault_entry fault_joins).launched l m how t refl fault at u
          ∙ ap (λ b. ended j u || b) (one_test j t u);
      none_begins = λ a b. attempt_other fault_entry j a b refl;
      grant = same_grant;
      commit = same_commit;
    }

    fault_is : (u : Attempt) → is_some (fault_at u j fault_entry) ≡ same_attempt t u
    fault_is u = ap (λ o. is_some (cond (is_for u o) (start_cause how) None)) newest
        ∙ by_bool (same_attempt t u) (λ b. is_some (cond b (start_cause how) None) ≡ b)
        (λ _. started_some how fault) (λ _. refl)

    -- of what is bound to a line, exactly where the line is this
    faulted : AreFaulted p j fault_entry (l ∷ [])
    faulted = record { each = λ k u was. or_false (l == k) ∙ which k u was ∙ sym (fault_is u) }
      where
        or_false : (b : Bool) → (b || false) ≡ b
        or_false true = refl
        or_false false = refl

        which : (k : ℕ) (u : Attempt) → bound p j k ≡ Some u → (l == k) ≡ same_attempt t u
        which k u was =
            let b = bound_is p j k u was in
            by_bool (l == k) (λ c. (l == k) ≡ c → c ≡ same_attempt t u)
            (λ _ h. let line = eqb-true l k h in
            let both : Some (m, t) ≡ Some (b.lane, u) = sym at ∙ ap (launch_of j) line
            ∙ b.launched in
            let pair : (m, t) ≡ (b.lane, u) = cc in
            let one : t ≡ u = ap (λ (x : ℕ × Attempt). x.1) pair in
            sym (ap (same_attempt t) (sym one) ∙ same_attempt_refl t))
            (λ _ h. by_bool (same_attempt t u) (λ c. same_attempt t u ≡ c → false ≡ c)
            (λ _ g. absurd (let one = same_attempt_eq t u g in
            let line = launched_once j (begin_in_order p j st.lawful) l k m b.lane t at
            (b.launched ∙ ap (λ x. Some (b.lane, x)) (sym one)) in let z = eq-eqb l k line in
            cc)) (λ _ g. refl) refl) refl

    aside : (not (is_done how) && true) ≡ true
    aside = rw fault refl

    fault_keeps : Stands p seats (noted_after (with_end (with_pool s
        (rows.change s.pool l rows.set_unbound)) t) lane (call.Launched l how) reply.Noted)
        (fault_entry ∷ j)
    unfolding halted
    fault_keeps = record {
      plan = st.plan;
      sound = st.sound;
      lawful = (st.lawful, fault_joins);
      seated = (st.seated, may.berth);
      few = st.few;
      pool = aside_kept p seats s.pool j fault_entry st.pool aside (l ∷ [])
          (faults_unbind p j fault_entry aside refl (all.entries fault_entry fault_joins).stays
          (l ∷ []) faulted);
      requests = asks.others p s.requests j fault_entry st.requests refl refl;
      cancels = marks.others p s.cancels j fault_entry st.cancels refl refl refl;
      ready = subst (λ (q : Plan). queue-stands.Stands p
          (states_after q s.race s.attempts s.ready t) (fault_entry ∷ j)) (sym st.plan)
          (several_states p st.sound.least s.race j fault_entry (t ∷ [])
          (record {
            order = attempts_in_order p j st.lawful;
            unbegun = all.facts.unbegun_goes;
            won = st.race;
          }) ((started_at, all.more.used t started_at), tt) together s.attempts
          st.attempts s.ready st.ready);
      race = races.others p s.race j (fault_entry ∷ j) st.race
          (record { grant = same_grant; commit = same_commit });
      attempts = several_counts p st.sound.least s.race j fault_entry (t ∷ [])
          (record {
            order = attempts_in_order p j st.lawful;
            unbegun = all.facts.unbegun_goes;
            won = st.race;
          }) ((started_at, all.more.used t started_at), tt) together s.attempts
          st.attempts s.ready st.ready;
      lanes = lanes_kept seats j fault_entry s.lanes st.lanes;
      greetings = quiet_greetings seats j fault_entry refl refl s.greetings st.greetings;
      last = last_kept seats j fault_entry quiet s.last st.last;
      matches = matches_kept seats j fault_entry spends s.matches st.matches;
      halted = st.halted;
    }

  launch_fault : Stands p seats (noted_after (launched_with s lane l how) lane
      (call.Launched l how) reply.Noted) (fault_entry ∷ j)
  launch_fault =
      let own = (berth_of p seats s j (lane / 2) l st ((all.calls lane (call.Launched l how) may.scripted).names l
      refl)).owner in
      subst (λ x. Stands p seats (noted_after x lane (call.Launched l how) reply.Noted) (fault_entry ∷ j))
      (sym (ap (λ b. cond b (with_pool s (rows.change s.pool l rows.set_started))
      (end_of_some (with_pool s (rows.change s.pool l rows.set_unbound)) (launch_by s lane)))
      fault
      ∙ ap (end_of_some (with_pool s (rows.change s.pool l rows.set_unbound)))
      (launch_is p seats s j lane (call.Launched l how) st may ∙ newest own.0 own.1 own.2)))
      (fault_keeps own.0 own.1 own.2)

launched_keeps : (p : Plan) (seats : ℕ) (s : State) (j : List Entry) (lane l : ℕ) (how : Started) → Stands p seats s j
    → LawfulMore p j → MayCall p seats j lane (call.Launched l how)
    → Stands p seats (noted_after (launched_with s lane l how) lane (call.Launched l how) reply.Noted)
    (record { lane = lane; call = call.Launched l how; reply = reply.Noted } ∷ j)
launched_keeps p seats s j lane l start.Done st all may = started_stands p seats s j lane st l may
launched_keeps p seats s j lane l start.RoomFault st all may =
    launch_fault p seats s j lane l start.RoomFault st all may refl
launched_keeps p seats s j lane l start.LaunchFault st all may =
    launch_fault p seats s j lane l start.LaunchFault st all may refl

-- ---- a request that wasn't written was ordered

whole_not : (how : Written) → is_unwritten how ≡ true → is_whole_or_fault how ≡ false
whole_not write.Done h = absurd (cc)
whole_not write.FeedFault h = absurd (cc)
whole_not write.RoomFault h = refl
whole_not write.TooLarge h = refl

and_none : (x y : Bool) → (x && (y && false)) ≡ false
and_none true true = refl
and_none true false = refl
and_none false y = refl

owed_sends : (p : Plan) (k : Kind) (l : ℕ) (n : ℤ) (how : Written) (x : Reply)
    → is_unwritten how ≡ true → is_owed p k (call.Wrote l n how) x ≡ true
    → is_some (send_in x) ≡ true
owed_sends p k l n how (reply.Send m o a b t) un h = refl
owed_sends p k l n how (reply.Cancel m o) un h = absurd
    (let off = (λ i. (m == l) && (int_eq o n && whole_not how un i))
    ∙ and_none (m == l) (int_eq o n) in cc)
owed_sends p k l n how _ un h = absurd (cc)

or_only : (b : Bool) → (b || false) ≡ true → b ≡ true
or_only true h = refl
or_only false h = absurd (cc)

work_ordered : (p : Plan) (k : Kind) (l : ℕ) (n : ℤ) (how : Written) (o : Option Entry)
    → is_unwritten how ≡ true → is_owed_after p k (call.Wrote l n how) o ≡ true
    → is_some (send_of_entry o) ≡ true
work_ordered p k l n how None un h = absurd (cc)
work_ordered p k l n how (Some e) un h = owed_sends p k l n how e.reply un
    (or_only (is_owed p k (call.Wrote l n how) e.reply) h)

write_ordered : (p : Plan) (j : List Entry) (lane l : ℕ) (n : ℤ) (how : Written)
    → in_script p j lane (call.Wrote l n how) ≡ true → is_unwritten how ≡ true
    → is_some (order_of j lane) ≡ true
write_ordered p j lane l n how may un =
    let rest = (and_parts (not (stopped j lane)) _ may).1 in
    by_bool (has_halted j lane) (λ b. cond b false ((lane % 2 == 0)
    && is_owed_after p kind.Single (call.Wrote l n how) (last_work j lane)) ≡ true
    → is_some (order_of j lane) ≡ true)
    (λ _ h. absurd (cc)) (λ _ h. work_ordered p kind.Single l n how (last_work j lane) un
    (and_parts (lane % 2 == 0) _ h).1) rest

-- ---- the others

module _ (p : Plan) (seats : ℕ) (s : State) (j : List Entry) (lane : ℕ) (st : Stands p seats s j)
    (all : LawfulMore p j) where
  Keeps : Call → State → Reply → Type 0
  Keeps c t y = Stands p seats (noted_after t lane c y) (record { lane = lane; call = c; reply = y } ∷ j)

  noted_facts : (c : Call) → MayCall p seats j lane c → Told p j lane c reply.Noted
      → EntryFacts p j (record { lane = lane; call = c; reply = reply.Noted })
  noted_facts c may is = all.entries (record { lane = lane; call = c; reply = reply.Noted })
      (record { scripted = may.scripted; told = is; kept = refl })

  -- ---- Wrote

  module _ (l : ℕ) (n : ℤ) where
    unwritten_keeps : (how : Written) → MayCall p seats j lane (call.Wrote l n how)
        → is_unwritten how ≡ true → (o : Option Request) → order_of j lane ≡ o → is_some o ≡ true
        → Keeps (call.Wrote l n how) (wrote_with s lane (lane / 2) l n how) reply.Noted
    unfolding Keeps
    unwritten_keeps how may un None at g = absurd (cc)
    unwritten_keeps how may un (Some q) at g =
        let calls = all.calls lane (call.Wrote l n how) may.scripted in
        let one = calls.writes l n how q refl at in
        let here = calls.names l refl in
        let entry = noted_facts (call.Wrote l n how) may refl in
        write_fault_stands p seats s j lane l n how q one.place st all.facts may here un at one.line
        one.there one.first one.known all.more.used (all.more.grouped (lane / 2) l here)
        entry.stays (entry.unwritten l n how q refl un at)

    fed_keeps : MayCall p seats j lane (call.Wrote l n write.FeedFault) → (o : Option Request)
        → order_of j lane ≡ o → Keeps (call.Wrote l n write.FeedFault)
        (wrote_with s lane (lane / 2) l n write.FeedFault) reply.Noted
    unfolding Keeps
    fed_keeps may None at =
        let here = (all.calls lane (call.Wrote l n write.FeedFault) may.scripted).names l refl in
        cancel_fault_stands p seats s j lane l n st may here (noted_facts
        (call.Wrote l n write.FeedFault) may refl).stays at
    fed_keeps may (Some q) at =
        let calls = all.calls lane (call.Wrote l n write.FeedFault) may.scripted in
        let one = calls.writes l n write.FeedFault q refl at in
        let entry = noted_facts (call.Wrote l n write.FeedFault) may refl in
        feed_fault_stands p seats s j lane l n st may (calls.names l refl) entry.stays all.facts q
        one.place at one.line one.there one.first one.unfed all.more.used
        (entry.fed l n q refl at)

    wrote_keeps : (how : Written) → MayCall p seats j lane (call.Wrote l n how)
        → Keeps (call.Wrote l n how) (wrote_with s lane (lane / 2) l n how) reply.Noted
    unfolding Keeps
    wrote_keeps write.Done may = wrote_stands p seats s j lane l st n may
    wrote_keeps write.FeedFault may = fed_keeps may (order_of j lane) refl
    wrote_keeps write.RoomFault may = unwritten_keeps write.RoomFault may refl
        (order_of j lane) refl (write_ordered p j lane l n write.RoomFault may.scripted refl)
    wrote_keeps write.TooLarge may = unwritten_keeps write.TooLarge may refl (order_of j lane) refl
        (write_ordered p j lane l n write.TooLarge may.scripted refl)

  -- ---- Claim

  module _ (a n : ℕ) (b : Branch) where
    abbrev t : Attempt
    t = attempt_of a b n

    bound_at : (l : ℕ) (u : Attempt) → bound p j l ≡ Some u
        → (w : ℕ) × (w < seats) × (last_line j w ≡ Some l)
    bound_at l u h = let x = all.more.bound_at l u h in (x.berth, berth_below p seats s j x.berth l st x.here, x.here)

    known : begun j t ≡ true → a < length p.actions
    known h = let u = all.more.used t h in slice_get_within p.actions a u.action u.place

    some_map : {X Y : Type 0} (g : X → Y) (o : Option X) → is_some (option_map g o) ≡ is_some o
    some_map g None = refl
    some_map g (Some y) = refl

    won_is : begun j t ≡ true → is_won s t ≡ granted j a
    unfolding granted
    won_is h = ap is_some (races.winner_is p s.race j a st.race (known h))
        ∙ some_map (λ (y : Attempt × Found). y.0.branch) (grant_of j a)

    module _ (f : Found) (may : MayCall p seats j lane (call.Claim a b n f)) where
      one : ClaimsOne j a b n
      one = (all.calls lane (call.Claim a b n f) may.scripted).claims a n b f refl

      again_keeps : granted j a ≡ false → (again : Bool)
          → cond again reply.AgainLater reply.Dropped ≡ plain_reply p j lane (call.Claim a b n f)
          → Keeps (call.Claim a b n f) (with_end s t) (cond again reply.AgainLater reply.Dropped)
      unfolding Keeps
      again_keeps free true is =
          let entry = all.entries (record {
            lane = lane;
            call = call.Claim a b n f;
            reply = reply.AgainLater;
          }) (record { scripted = may.scripted; told = is; kept = refl }) in
          again_stands p seats s j lane a n b f st may all.facts one.sent one.start
          (all.more.used t one.start) free is entry.stays (entry.refused (t, f) refl)
      again_keeps free false is =
          let entry = all.entries (record {
            lane = lane;
            call = call.Claim a b n f;
            reply = reply.Dropped;
          }) (record { scripted = may.scripted; told = is; kept = refl }) in
          dropped_stands p seats s j lane a n b f st may all.facts one.sent one.start
          (all.more.used t one.start) free is entry.stays (entry.refused (t, f) refl)

      granted_facts : reply.Granted ≡ plain_reply p j lane (call.Claim a b n f)
          → EntryFacts p j (record {
            lane = lane;
            call = call.Claim a b n f;
            reply = reply.Granted;
          })
      granted_facts is = all.entries (record {
        lane = lane;
        call = call.Claim a b n f;
        reply = reply.Granted;
      }) (record { scripted = may.scripted; told = is; kept = refl })

    found_keeps : (f : Found) → MayCall p seats j lane (call.Claim a b n f) → granted j a ≡ false
        → found_reply s t f ≡ plain_reply p j lane (call.Claim a b n f)
        → Keeps (call.Claim a b n f) (found_with s t f) (found_reply s t f)
    unfolding Keeps
    found_keeps (found.Files fs) may free is =
        let entry = granted_facts (found.Files fs) may is in
        let open_yet = entry.grants (t, found.Files fs) refl in
        granted_stands p seats s j lane a n b (found.Files fs) st may is open_yet.ungranted
        open_yet.uncommitted entry.stays bound_at (queue.with_unwanted s.ready a)
        (queues.granted_files p j lane a n b fs open_yet s.ready st.ready)
    found_keeps (found.Exit code) may free is =
        let entry = granted_facts (found.Exit code) may is in
        let open_yet = entry.grants (t, found.Exit code) refl in
        granted_stands p seats s j lane a n b (found.Exit code) st may is open_yet.ungranted
        open_yet.uncommitted entry.stays bound_at (queue.with_settled
        (queue.with_unwanted s.ready a) a false) (queues.granted_exit p j lane a n b code
        open_yet s.ready st.ready)
    found_keeps (found.Missing k) may free is = again_keeps (found.Missing k) may free
        (nat_lt n s.plan.limit) is
    found_keeps found.RoomFault may free is = again_keeps found.RoomFault may free
        (nat_lt n s.plan.limit) is
    found_keeps found.Refused may free is = again_keeps found.Refused may free
        (nat_lt n s.plan.limit) is

    won_keeps : (f : Found) → MayCall p seats j lane (call.Claim a b n f) → (w : Bool)
        → is_won s t ≡ w → cond w reply.Lost (found_reply s t f) ≡ plain_reply p j lane
        (call.Claim a b n f) → Keeps (call.Claim a b n f) (cond w s (found_with s t f))
        (cond w reply.Lost (found_reply s t f))
    unfolding Keeps
    won_keeps f may true h is = lost_stands p seats s j lane a n b f st may is
    won_keeps f may false h is = found_keeps f may (sym (won_is (one f may).start) ∙ h) is

    claim_reply : (f : Found) → MayCall p seats j lane (call.Claim a b n f)
        → claim_reply_by s t f ≡ plain_reply p j lane (call.Claim a b n f)
    claim_reply f may = claim_is p seats s j lane a n b f st may (known (one f may).start)
        (one f may).apart

  -- ---- Take

  module _ (may : MayCall p seats j lane call.Take) where
    abbrev stop_entry : Entry
    stop_entry = record { lane = lane; call = call.Take; reply = reply.Stop }

    stop_quiet : IsQuiet seats j stop_entry
    unfolding wrote
    stop_quiet = record {
      no_launch = refl;
      no_send = refl;
      no_take = λ m. refl;
      no_break = λ m. refl;
      no_feed = λ u. refl;
    }

    stop_spends : SpendsNone seats j stop_entry
    unfolding wrote granted grant_of gathered
    stop_spends = record { no_send = refl; no_match = refl; same = λ u. refl }

    stop_keeps : (b : Bool) → cond b reply.Stop reply.Idle ≡ plain_reply p j lane call.Take
        → is_kept (cond b reply.Stop reply.Idle) ≡ true → Keeps call.Take s
        (cond b reply.Stop reply.Idle)
    unfolding Keeps
    stop_keeps true is kept = quiet_stands p seats s j stop_entry st
        (record { scripted = may.scripted; told = is; kept = refl }) may.berth refl refl refl refl refl refl
        (quiet_greetings seats j stop_entry refl refl s.greetings st.greetings) stop_quiet stop_spends
    stop_keeps false is kept = absurd (cc)

    taken_keeps : (o : Option ℕ) → ((l : ℕ) → o ≡ Some l → last_line j (lane / 2) ≡ Some l)
        → take_reply s o ≡ plain_reply p j lane call.Take → is_kept (take_reply s o) ≡ true
        → Keeps call.Take (taken_with s (lane / 2) o) (take_reply s o)
    unfolding Keeps
    taken_keeps (Some l) here is kept = take_stands p seats s j lane st l may (here l refl) is
    taken_keeps None here is kept = stop_keeps (is_over s) is kept

    takes_here : (q : Option ℕ) (l : ℕ) → takes_line s (lane / 2) q ≡ Some l → q ≡ Some l
    takes_here None l h = absurd (cc)
    takes_here (Some k) l h = by_bool ((row_at s k).started
        && not (taken_on (slice_get s.last (lane / 2)))) (λ b. cond b (Some k) None ≡ Some l
        → Some k ≡ Some l) (λ _ g. g) (λ _ g. absurd (cc)) h

    take_keeps : is_kept (take_reply s (takeable s (lane / 2))) ≡ true
        → Keeps call.Take (taken_with s (lane / 2) (takeable s (lane / 2)))
        (take_reply s (takeable s (lane / 2)))
    take_keeps kept = taken_keeps (takeable s (lane / 2))
        (λ l h. sym (last_is p seats s.pool j st.pool (lane / 2) may.berth)
        ∙ takes_here (rows.last_of s.pool (lane / 2)) l h) (take_is p seats s j lane st may) kept

  -- ---- each call

  module _ (seat : BerthGroup) (fits : SeatFits p j (lane / 2) seat) where
    call_told : (c : Call) → is_report c ≡ true → MayCall p seats j lane c
        → Told p j lane c (made_reply s lane seat c)
    call_told call.Ask h may = absurd (cc)
    call_told (call.Launched l how) h may = refl
    call_told (call.Wrote l n how) h may = refl
    call_told (call.Look x) h may = absurd (cc)
    call_told (call.Claim a b n f) h may = claim_reply a n b f may
    call_told (call.Committed a b how) h may = refl
    call_told (call.Killed l) h may = refl
    call_told call.Take h may = take_is p seats s j lane st may
    call_told (call.Answer l x) h may =
        let here = (all.calls lane (call.Answer l x) may.scripted).names l refl in
        answer_is p seats s j lane l seat x st all.facts may here fits
        (all.more.grouped (lane / 2) l here) (all.more.alone (lane / 2) l here)
    call_told (call.Ended l how) h may = refl
    call_told call.Halt h may = refl
    call_told call.Tick h may = Counts

    call_keeps : (c : Call) → is_report c ≡ true → MayCall p seats j lane c
        → is_kept (made_reply s lane seat c) ≡ true → Keeps c (made s lane seat c)
        (made_reply s lane seat c)
    unfolding Keeps
    call_keeps call.Ask h may kept = absurd (cc)
    call_keeps (call.Launched l how) h may kept = launched_keeps p seats s j lane l how st all may
    call_keeps (call.Wrote l n how) h may kept = wrote_keeps l n how may
    call_keeps (call.Look x) h may kept = absurd (cc)
    call_keeps (call.Claim a b n f) h may kept = won_keeps a n b f may
        (is_won s (attempt_of a b n)) refl (claim_reply a n b f may)
    call_keeps (call.Committed a b how) h may kept = commit_stands p seats s j lane a b how st may
        (noted_facts (call.Committed a b how) may refl).stays
        ((all.calls lane (call.Committed a b how) may.scripted).commits a b how refl)
    call_keeps (call.Killed l) h may kept = killed_stands p seats s j lane st l may
    call_keeps call.Take h may kept = take_keeps may kept
    call_keeps (call.Answer l x) h may kept =
        let calls = all.calls lane (call.Answer l x) may.scripted in
        answered_stands p seats s j lane l seat x st may (calls.names l refl) (calls.consumes l x refl)
        (call_told (call.Answer l x) refl may)
    call_keeps (call.Ended l how) h may kept =
        let calls = all.calls lane (call.Ended l how) may.scripted in
        let here = calls.names l refl in
        let entry = noted_facts (call.Ended l how) may refl in
        ended_stands p seats s j lane l seat how st all.facts may here fits all.more.used
        (all.more.grouped (lane / 2) l here) (calls.lost l how refl) all.more.carries
        entry.stays (entry.finished l how refl)
    call_keeps call.Halt h may kept = halt_stands p seats s j lane st may
    call_keeps call.Tick h may kept = tick_stands p seats s j lane st may

-- ---- each call but an Ask and a Look

pub call_is_told : (p : Plan) (seats : ℕ) (s : State) (j : List Entry) (lane : ℕ) (seat : BerthGroup)
    (c : Call) → Stands p seats s j → LawfulMore p j → SeatFits p j (lane / 2) seat
    → is_report c ≡ true → MayCall p seats j lane c → Told p j lane c (made_reply s lane seat c)
call_is_told p seats s j lane seat c st all fits h may =
    call_told p seats s j lane st all seat fits c h may

pub call_stands : (p : Plan) (seats : ℕ) (s : State) (j : List Entry) (lane : ℕ) (seat : BerthGroup)
    (c : Call) → Stands p seats s j → LawfulMore p j → SeatFits p j (lane / 2) seat
    → is_report c ≡ true → MayCall p seats j lane c → is_kept (made_reply s lane seat c) ≡ true
    → Stands p seats (noted_after (made s lane seat c) lane c (made_reply s lane seat c))
    (record { lane = lane; call = c; reply = made_reply s lane seat c } ∷ j)
unfolding Keeps
call_stands p seats s j lane seat c st all fits h may kept =
    call_keeps p seats s j lane st all seat fits c h may kept
