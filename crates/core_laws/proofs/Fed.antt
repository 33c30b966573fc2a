-- What a Wrote with FeedFault makes of a state that stands for a journal.
use Rattle.std.proofs.Common.{◌≡◌, ℕ, zero, suc, ◌/◌, ◌==◌, Bool, true, false, ◌&&◌, ◌||◌, not, cond, List, [], ◌∷◌, length, filter, Option, Some, None, is_some, option_map, unwrap_or, refl, ap, sym, subst, ◌∙◌}
use Rattle.std.specs.Prelude.{slice_get, ℤ}
use Rattle.std.specs.List.{find}
use Rattle.std.proofs.lemmas.Bool.{eq-eqb}
use Rattle.run_plan.specs.declared.plan.Branch.{Branch}
use Rattle.run_plan.specs.declared.plan.Plan.{Plan}
use Rattle.exec_journal.specs.declared.attempt.Attempt.{Attempt}
use Rattle.exec_journal.specs.declared.ends.Cause.{Cause}
use Rattle.exec_journal.specs.declared.ends.Cause.TheVariants as cause
use Rattle.exec_journal.specs.Entry.{Entry}
use Rattle.exec_journal.specs.declared.call.Call.TheVariants as call
use Rattle.exec_journal.specs.declared.call.Written.TheVariants as write
use Rattle.exec_journal.specs.declared.reply.Reply.TheVariants as reply
use Rattle.exec_journal.specs.Attempts.{ended}
use Rattle.exec_journal.specs.Entries.{Request, same_attempt, is_for}
use Rattle.exec_journal.specs.Facts.{begun, SameActions}
use Rattle.list_lemmas.specs.Options.{or_else, unless_before}
use Rattle.exec_journal.specs.Rules.{gathered}
use Rattle.exec_journal.specs.Settled.{bound}
use Rattle.list_lemmas.specs.Places.{update}
use Rattle.exec_journal.specs.Words.{halted, last_line, launch_of, line_cause, was_taken, sends, pending, wrote, wrote_if, granted, grant_of, commit_of, answered, has_ended, order_of, says_feed_fault, started, was_killed, broke}
use Rattle.exec_journal.proofs.Begins.{attempts_in_order, attempt_other, begin_in_order, same_attempt_eq, same_attempt_refl}
use Rattle.exec_journal.proofs.Quiet.{ended_same}
use Rattle.exec_journal.proofs.Ruled.{by_bool}
use Rattle.list_lemmas.proofs.Updates.{get_update}
use Rattle.worker_pool.specs.Entries.{WantedStays, is_of}
use Rattle.worker_pool.specs.Rows as rows
use Rattle.worker_pool.specs.Stands as pools
use Rattle.worker_pool.specs.Stands.{line_in}
use Rattle.worker_pool.specs.declared.LineRow.{LineRow}
use Rattle.worker_pool.proofs.Bound.{writes_unbind}
use Rattle.worker_pool.proofs.Lives.{feed_kept, ended_broke, first_stays}
use Rattle.worker_pool.proofs.Once.{sent_alone}
use Rattle.worker_pool.proofs.Words.{over_same, granted_same, same_actions}
use Rattle.request_table.proofs.Kept as asks
use Rattle.cancel_rules.proofs.Followed as marks
use Rattle.race_core.proofs.Kept as races
use Rattle.ready_order.specs.Stands as queue-stands
use Rattle.retry_rules.proofs.Counted as tallies
use Rattle.core_tables.specs.declared.last.LastLine.{LastLine}
use Rattle.core_state.specs.declared.state.State.{State}
use Rattle.core_state.specs.Choices.{row_at}
use Rattle.table_laws.specs.Moments.{JournalFacts, AreUsed}
use Rattle.core_tables.specs.Last.{last_in, row_of, row_by, fed_of, set_cause, set_fed}
use Rattle.core_state.specs.Machine.{states_after}
use Rattle.call_laws.specs.Matches.{is_faulty}
use Rattle.core_state.specs.Noted.{noted_after}
use Rattle.core_laws.specs.Premises.{EndsTogether}
use Rattle.core_state.specs.Reports.{broken_by_feed, fed_attempt, fed_by, ended_if, wrote_with}
use Rattle.core_laws.specs.Stands.{Stands, MayCall}
use Rattle.core_laws.proofs.Asked.{each_place, sends_begun}
use Rattle.core_laws.proofs.Own.{lanes_kept, matches_kept, SpendsNone, ready_kept, race_kept, attempts_kept}
use Rattle.core_laws.proofs.Rowed.{berth_of, changed_last, sent_is}
use Rattle.core_laws.proofs.Several.{several_counts, several_states, one_test}
use Rattle.core_laws.proofs.Unwritten.{fault_spends, now_wrote}
use Rattle.core_laws.proofs.Greeted.{quiet_greetings}
use Rattle.exec_journal.specs.Lawful.{LawfulEntry}

find_but : (f g test : Request → Bool) (xs : List Request)
    → ((r : Request) → test r ≡ false → f r ≡ g r) → filter test xs ≡ [] → find f xs ≡ find g xs
find_but f g test [] same h = refl
find_but f g test (x ∷ xs) same h =
    by_bool (test x) (λ b. test x ≡ b → cond b (x ∷ filter test xs) (filter test xs) ≡ []
    → cond (f x) (Some x) (find f xs) ≡ cond (g x) (Some x) (find g xs))
    (λ _ _ k. absurd (cc)) (λ _ is k. λ i. cond (same x is i) (Some x)
    (find_but f g test xs same k i)) refl h

module _ (p : Plan) (seats : ℕ) (s : State) (j : List Entry) (lane l : ℕ) (n : ℤ) (st : Stands p seats s j)
    (may : MayCall p seats j lane (call.Wrote l n write.FeedFault))
    (here : last_line j (lane / 2) ≡ Some l)
    (stays : WantedStays p j (record {
      lane = lane;
      call = call.Wrote l n write.FeedFault;
      reply = reply.Noted;
    })) where
  abbrev e : Entry
  e = record { lane = lane; call = call.Wrote l n write.FeedFault; reply = reply.Noted }

  joins : LawfulEntry p j e
  joins = record { scripted = may.scripted; told = refl; kept = refl }

  same_grant : (a : ℕ) → grant_of (e ∷ j) a ≡ grant_of j a
  unfolding grant_of
  same_grant a = refl

  same_commit : (a : ℕ) (b : Branch) → commit_of (e ∷ j) a b ≡ commit_of j a b
  unfolding commit_of
  same_commit a b = refl

  cause_more : (o : Option Cause) → unless_before (Some cause.Feed) o ≡ or_else o (Some cause.Feed)
  cause_more None = refl
  cause_more (Some d) = refl

  own_cause : line_cause (e ∷ j) l ≡ or_else (line_cause j l) (Some cause.Feed)
  unfolding line_cause
  own_cause = (λ z. unless_before (cond (eq-eqb l l refl z) (Some cause.Feed) None)
      (line_cause j l)) ∙ cause_more (line_cause j l)

  other_cause : (k : ℕ) → (l == k) ≡ false → line_cause (e ∷ j) k ≡ line_cause j k
  unfolding line_cause
  other_cause k h = λ z. unless_before (cond (h z) (Some cause.Feed) None) (line_cause j k)

  cause_stays : (k : ℕ) → has_ended j k ≡ true → line_cause (e ∷ j) k ≡ line_cause j k
  unfolding line_cause
  cause_stays k h = first_stays (cond (l == k) (Some cause.Feed) None) (line_cause j k)
      (ended_broke j k h)

  -- ---- of a Cancel

  module _ (order : order_of j lane ≡ None) where
    same_wrote : (u : Attempt) → wrote (e ∷ j) u ≡ wrote j u
    unfolding wrote
    same_wrote u = ap (λ (o : Option Request). unless_before
        (wrote_if u (call.Wrote l n write.FeedFault) o) (wrote j u)) order

    none_both : (b : Bool) → ◌≡◌ {A = Option Cause} (cond b None None) None
    none_both true = refl
    none_both false = refl

    none_ends : (u : Attempt) → ended (e ∷ j) u ≡ ended j u
    unfolding has_ended answered
    none_ends u = ended_same e j u (over_same e j u (none_both
        (is_for u (option_map (λ r. r.attempt) (order_of j lane)))) refl
        (λ m. refl) refl (ap says_feed_fault (same_wrote u)) cause_stays)
        (granted_same e j u.action refl)

    same : SameActions j (e ∷ j)
    same = same_actions e j none_ends refl (λ a b. refl)

    find_same : (f g : Request → Bool) (xs : List Request) → ((x : Request) → f x ≡ g x)
        → find f xs ≡ find g xs
    find_same f g [] h = refl
    find_same f g (x ∷ xs) h = λ i. cond (h x i) (Some x) (find_same f g xs h i)

    same_fed : (m : ℕ) → fed_of (e ∷ j) m ≡ fed_of j m
    unfolding fed_of sends
    same_fed m = ap (option_map (λ r. r.attempt)) (find_same
        (λ r. says_feed_fault (wrote (e ∷ j) r.attempt)) (λ r. says_feed_fault (wrote j r.attempt))
        (sends j m) (λ r. ap says_feed_fault (same_wrote r.attempt)))

    own_row : row_of (e ∷ j) (Some l) ≡ set_cause cause.Feed (row_of j (Some l))
    unfolding launch_of was_taken
    own_row = λ z. row_by (option_map (λ x. x.1) (launch_of j l)) (was_taken j l) (own_cause z)
        (same_fed l z)

    other_row : (k : ℕ) → (l == k) ≡ false → row_of (e ∷ j) (Some k) ≡ row_of j (Some k)
    unfolding launch_of was_taken
    other_row k h = λ z. row_by (option_map (λ x. x.1) (launch_of j k)) (was_taken j k)
        (other_cause k h z) (same_fed k z)

    spends : SpendsNone seats j e
    unfolding granted grant_of gathered
    spends = record {
      no_send = refl;
      no_match = refl;
      same = λ u. ap (λ o. gathered j u || (is_faulty o || granted j u.action)) (same_wrote u);
    }

    cancel_fault : Stands p seats (noted_after (broken_by_feed s (lane / 2) l) lane
        (call.Wrote l n write.FeedFault) reply.Noted) (e ∷ j)
    unfolding halted
    cancel_fault = record {
      plan = st.plan;
      sound = st.sound;
      lawful = (st.lawful, joins);
      seated = (st.seated, may.berth);
      few = st.few;
      pool = feed_kept p seats s.pool j lane l st.pool n (writes_unbind p j lane l n write.FeedFault
          stays);
      requests = asks.done_kept j lane l n write.FeedFault p s.requests st.requests refl;
      cancels = marks.done_kept p s.cancels j lane l n write.FeedFault st.cancels refl;
      ready = ready_kept p j e same refl s.ready st.ready;
      race = race_kept p j e same refl s.race st.race;
      attempts = attempts_kept p j e same refl s.attempts st.attempts;
      lanes = lanes_kept seats j e s.lanes st.lanes;
      greetings = quiet_greetings seats j e refl refl s.greetings st.greetings;
      last = changed_last p seats s j e l st here (set_cause cause.Feed) refl own_row other_row
          (update (set_cause cause.Feed) s.last (lane / 2)) (λ v. get_update
          (set_cause cause.Feed) s.last (lane / 2) v);
      matches = matches_kept seats j e spends s.matches st.matches;
      halted = st.halted;
    }

    pub cancel_fault_stands : Stands p seats (noted_after (wrote_with s lane
        (lane / 2) l n write.FeedFault) lane (call.Wrote l n write.FeedFault) reply.Noted) (e ∷ j)
    cancel_fault_stands = subst (λ x. Stands p seats (noted_after x lane
        (call.Wrote l n write.FeedFault) reply.Noted) (e ∷ j))
        (sym (ap (fed_by s (lane / 2) l) (sent_is p seats s j lane (call.Wrote l n write.FeedFault) st may
        ∙ ap (option_map (λ r. r.attempt)) order))) cancel_fault

  -- ---- of a Send

  module _ (facts : JournalFacts p j) (q : Request) (i : ℕ) (order : order_of j lane ≡ Some q)
      (own_line : q.line ≡ l) (place : slice_get (sends j l) i ≡ Some q)
      (first : wrote j q.attempt ≡ None) (unfed : fed_of j l ≡ None) (used : AreUsed p j)
      (ends : (u : Attempt) → ended (e ∷ j) u ≡ (ended j u
      || (same_attempt q.attempt u && (has_ended j q.line
      && not (granted j q.attempt.action))))) where
    abbrev t : Attempt
    t = q.attempt

    now_fed : (u : Attempt) → says_feed_fault (wrote (e ∷ j) u) ≡
        (same_attempt t u || says_feed_fault (wrote j u))
    now_fed u = ap says_feed_fault (now_wrote seats j lane l n write.FeedFault q refl order first u)
        ∙ by_bool (same_attempt t u) (λ b. same_attempt t u ≡ b
        → says_feed_fault (unless_before (cond b (Some write.FeedFault) None) (wrote j u)) ≡
        (b || says_feed_fault (wrote j u)))
        (λ _ h. ap (λ o. says_feed_fault (unless_before (Some write.FeedFault) o))
        (ap (wrote j) (sym (same_attempt_eq t u h)) ∙ first)) (λ _ h. refl) refl

    none_found : (f : Request → Bool) (xs : List Request)
        → option_map (λ r. r.attempt) (find f xs) ≡ None → find f xs ≡ None
    none_found f xs h = by (find f xs) h
      where
        by : (o : Option Request) → option_map (λ r. r.attempt) o ≡ None → o ≡ None
        by None k = refl
        by (Some x) k = absurd (cc)

    old_none : find (λ r. says_feed_fault (wrote j r.attempt)) (sends j l) ≡ None
    unfolding fed_of
    old_none = none_found (λ r. says_feed_fault (wrote j r.attempt)) (sends j l) unfed

    -- the first that has it now
    abbrev feeds_now : Request → Bool
    feeds_now r = says_feed_fault (wrote (e ∷ j) r.attempt)

    abbrev fed_before : Request → Bool
    fed_before r = says_feed_fault (wrote j r.attempt)

    is_unfed : (x : Request) (xs : List Request) → cond (fed_before x) (Some x) (find fed_before xs)
        ≡ None → (fed_before x ≡ false) × (find fed_before xs ≡ None)
    is_unfed x xs h = by_bool (fed_before x) (λ b. cond b (Some x) (find fed_before xs) ≡ None
        → (b ≡ false) × (find fed_before xs ≡ None)) (λ _ k. absurd (cc)) (λ _ k. (refl, k)) h

    or_none : (b : Bool) → (b || false) ≡ b
    or_none true = refl
    or_none false = refl

    feeds_as : (x : Request) → fed_before x ≡ false → feeds_now x ≡ same_attempt t x.attempt
    feeds_as x h = now_fed x.attempt ∙ ap (λ b. same_attempt t x.attempt || b) h
        ∙ or_none (same_attempt t x.attempt)

    found_now : (x : Request) (xs : List Request) → same_attempt t x.attempt ≡ true
        → fed_before x ≡ false → option_map (λ r. r.attempt)
        (cond (feeds_now x) (Some x) (find feeds_now xs)) ≡ Some t
    found_now x xs its h = ap (λ b. option_map (λ r. r.attempt)
        (cond b (Some x) (find feeds_now xs))) (feeds_as x h ∙ its)
        ∙ ap Some (sym (same_attempt_eq t x.attempt its))

    search : (xs : List Request) (k : ℕ) → find fed_before xs ≡ None → slice_get xs k ≡ Some q
        → option_map (λ r. r.attempt) (find feeds_now xs) ≡ Some t
    search [] k old h = absurd (cc)
    search (x ∷ xs) zero old h = found_now x xs (let z : x ≡ q = cc in
        ap (λ (r : Request). same_attempt t r.attempt) z ∙ same_attempt_refl t)
        (is_unfed x xs old).0
    search (x ∷ xs) (suc k) old h =
        let none = is_unfed x xs old in
        let rest = search xs k none.1 h in
        by_bool (same_attempt t x.attempt) (λ b. same_attempt t x.attempt ≡ b
        → option_map (λ r. r.attempt) (cond (feeds_now x) (Some x) (find feeds_now xs))
        ≡ Some t)
        (λ _ yes. found_now x xs yes none.0) (λ _ other. ap
        (λ b. option_map (λ r. r.attempt) (cond b (Some x) (find feeds_now xs)))
        (feeds_as x none.0 ∙ other) ∙ rest) refl

    fed_here : fed_of (e ∷ j) l ≡ Some t
    unfolding fed_of sends
    fed_here = search (sends j l) i old_none place

    fed_other : (k : ℕ) → (l == k) ≡ false → fed_of (e ∷ j) k ≡ fed_of j k
    unfolding fed_of sends
    fed_other k h = ap (option_map (λ r. r.attempt)) (find_but
        (λ r. says_feed_fault (wrote (e ∷ j) r.attempt)) (λ r. says_feed_fault (wrote j r.attempt))
        (is_of t) (sends j k)
        (λ r g. now_fed r.attempt ∙ ap (λ b. b || says_feed_fault (wrote j r.attempt)) g)
        (sent_alone j (begin_in_order p j st.lawful) l i q place k
        ∙ ap (λ b. cond b (q ∷ []) []) h))

    fed_row : row_of (e ∷ j) (Some l) ≡ set_fed t (set_cause cause.Feed (row_of j (Some l)))
    unfolding launch_of was_taken
    fed_row = λ z. row_by (option_map (λ x. x.1) (launch_of j l)) (was_taken j l) (own_cause z)
        (fed_here z)

    unfed_row : (k : ℕ) → (l == k) ≡ false → row_of (e ∷ j) (Some k) ≡ row_of j (Some k)
    unfolding launch_of was_taken
    unfed_row k h = λ z. row_by (option_map (λ x. x.1) (launch_of j k)) (was_taken j k)
        (other_cause k h z) (fed_other k h z)

    twice : (b : Bool) (o : Option LastLine) → cond b (option_map (set_fed t)
        (cond b (option_map (set_cause cause.Feed) o) o)) (cond b
        (option_map (set_cause cause.Feed) o) o) ≡ cond b (option_map
        (λ x. set_fed t (set_cause cause.Feed x)) o) o
    twice true None = refl
    twice true (Some x) = refl
    twice false o = refl

    rows_are : (v : ℕ) → slice_get (update (set_fed t)
        (update (set_cause cause.Feed) s.last (lane / 2)) (lane / 2)) v ≡ last_in seats (e ∷ j) v
    rows_are = changed_last p seats s j e l st here (λ x. set_fed t (set_cause cause.Feed x)) refl fed_row
        unfed_row (update (set_fed t) (update (set_cause cause.Feed) s.last (lane / 2)) (lane / 2))
        (λ v. get_update (set_fed t) (update (set_cause cause.Feed) s.last (lane / 2)) (lane / 2) v
        ∙ (λ z. cond (lane / 2 == v) (option_map (set_fed t)
        (get_update (set_cause cause.Feed) s.last (lane / 2) v z))
        (get_update (set_cause cause.Feed) s.last (lane / 2) v z))
        ∙ twice (lane / 2 == v) (slice_get s.last v))

    start : begun j t ≡ true
    start = each_place (λ r. begun j r.attempt ≡ true) (sends j l) i q (sends_begun j l) place

    together : has_ended j l ≡ true → EndsTogether j e (t ∷ [])
    together over = record {
      these = λ u. ends u ∙ (λ z. ended j u || (same_attempt t u
          && ((ap (has_ended j) own_line ∙ over) z && not (granted j t.action))))
          ∙ ap (λ b. ended j u || b) (one_test j t u);
      none_begins = λ a b. attempt_other e j a b refl;
      grant = same_grant;
      commit = same_commit;
    }

    none_now : has_ended j l ≡ false → (u : Attempt) → ended (e ∷ j) u ≡ ended j u
    none_now going u = ends u ∙ (λ z. ended j u || (same_attempt t u
        && ((ap (has_ended j) own_line ∙ going) z && not (granted j t.action))))
        ∙ off (ended j u) (same_attempt t u)
      where
        off : (x y : Bool) → (x || (y && false)) ≡ x
        off true y = refl
        off false true = refl
        off false false = refl

    by_over : (over : Bool) → has_ended j l ≡ over → Stands p seats
        (noted_after (ended_if over (fed_attempt (broken_by_feed s (lane / 2) l) (lane / 2) t) t)
        lane (call.Wrote l n write.FeedFault) reply.Noted) (e ∷ j)
    unfolding halted
    by_over true over = record {
      plan = st.plan;
      sound = st.sound;
      lawful = (st.lawful, joins);
      seated = (st.seated, may.berth);
      few = st.few;
      pool = feed_kept p seats s.pool j lane l st.pool n (writes_unbind p j lane l n write.FeedFault
          stays);
      requests = asks.done_kept j lane l n write.FeedFault p s.requests st.requests refl;
      cancels = marks.done_kept p s.cancels j lane l n write.FeedFault st.cancels refl;
      ready = subst (λ (x : Plan). queue-stands.Stands p
          (states_after x s.race s.attempts s.ready t) (e ∷ j)) (sym st.plan)
          (several_states p st.sound.least s.race j e (t ∷ [])
          (record {
            order = attempts_in_order p j st.lawful;
            unbegun = facts.unbegun_goes;
            won = st.race;
          }) ((start, used t start), tt) (together over) s.attempts st.attempts
          s.ready st.ready);
      race = races.others p s.race j (e ∷ j) st.race (record {
        grant = same_grant;
        commit = same_commit;
      });
      attempts = several_counts p st.sound.least s.race j e (t ∷ [])
          (record {
            order = attempts_in_order p j st.lawful;
            unbegun = facts.unbegun_goes;
            won = st.race;
          }) ((start, used t start), tt) (together over) s.attempts st.attempts
          s.ready st.ready;
      lanes = lanes_kept seats j e s.lanes st.lanes;
      greetings = quiet_greetings seats j e refl refl s.greetings st.greetings;
      last = rows_are;
      matches = fault_spends seats j lane l n write.FeedFault q refl order first s.matches st.matches;
      halted = st.halted;
    }
    by_over false going = record {
      plan = st.plan;
      sound = st.sound;
      lawful = (st.lawful, joins);
      seated = (st.seated, may.berth);
      few = st.few;
      pool = feed_kept p seats s.pool j lane l st.pool n (writes_unbind p j lane l n write.FeedFault
          stays);
      requests = asks.done_kept j lane l n write.FeedFault p s.requests st.requests refl;
      cancels = marks.done_kept p s.cancels j lane l n write.FeedFault st.cancels refl;
      ready = ready_kept p j e (same_actions e j (none_now going) refl
          (λ a b. refl)) refl s.ready st.ready;
      race = races.others p s.race j (e ∷ j) st.race (record {
        grant = same_grant;
        commit = same_commit;
      });
      attempts = tallies.others_count p s.attempts j e st.attempts
          (λ a b. attempt_other e j a b refl) (none_now going);
      lanes = lanes_kept seats j e s.lanes st.lanes;
      greetings = quiet_greetings seats j e refl refl s.greetings st.greetings;
      last = rows_are;
      matches = fault_spends seats j lane l n write.FeedFault q refl order first s.matches st.matches;
      halted = st.halted;
    }

    row_ended : (row_at (broken_by_feed s (lane / 2) l) l).ended ≡ has_ended j l
    unfolding line_in
    row_ended =
        let own = berth_of p seats s j (lane / 2) l st here in
        ap (λ (o : Option LineRow). (unwrap_or o (rows.new_line 0)).ended)
        (get_update rows.set_broken s.pool.lines l l ∙ (λ z. cond (eq-eqb l l refl z)
        (option_map rows.set_broken (slice_get s.pool.lines l)) (slice_get s.pool.lines l))
        ∙ ap (option_map rows.set_broken) (st.pool.each_line l
        ∙ ap (λ (o : Option (ℕ × Attempt)). pools.row_of p o (started j l) (broke j l)
        (has_ended j l) (was_killed j l) (is_some (bound p j l)) (length (pending j l)))
        own.owner.2))

    pub feed_fault_stands : Stands p seats (noted_after (wrote_with s lane (lane / 2) l n write.FeedFault)
        lane (call.Wrote l n write.FeedFault) reply.Noted) (e ∷ j)
    feed_fault_stands = subst (λ x. Stands p seats (noted_after x lane
        (call.Wrote l n write.FeedFault) reply.Noted) (e ∷ j))
        (sym (ap (fed_by s (lane / 2) l) (sent_is p seats s j lane (call.Wrote l n write.FeedFault) st may
        ∙ ap (option_map (λ r. r.attempt)) order)
        ∙ ap (λ b. ended_if b (fed_attempt (broken_by_feed s (lane / 2) l) (lane / 2) t) t)
        row_ended)) (by_over (has_ended j l) refl)
