-- What a Wrote with RoomFault or TooLarge makes of a state that stands for a journal.
use Rattle.std.proofs.Common.{◌≡◌, ℕ, zero, suc, ◌/◌, ◌<◌, ◌==◌, nat_lt, Bool, true, false, ◌&&◌, ◌||◌, not, cond, List, [], ◌∷◌, length, filter, map, reverse, Option, Some, None, is_some, option_map, refl, ap, sym, subst, ◌∙◌, arith}
use Rattle.std.specs.Prelude.{slice_get, option_and_then, ℤ}
use Rattle.std.specs.List.{find}
use Rattle.std.proofs.lemmas.Bool.{eq-eqb}
use Rattle.arrayvec.specs.ArrayVec.{ArrayVec}
use Rattle.run_plan.specs.declared.plan.Branch.{Branch}
use Rattle.run_plan.specs.declared.plan.Plan.{Plan}
use Rattle.exec_journal.specs.declared.attempt.Attempt.{Attempt}
use Rattle.exec_journal.specs.declared.ends.Cause.{Cause}
use Rattle.exec_journal.specs.declared.ends.Cause.TheVariants as cause
use Rattle.exec_journal.specs.Entry.{Entry}
use Rattle.exec_journal.specs.declared.call.Call.TheVariants as call
use Rattle.exec_journal.specs.declared.call.Written.{Written}
use Rattle.exec_journal.specs.declared.call.Written.TheVariants as write
use Rattle.exec_journal.specs.declared.reply.Reply.TheVariants as reply
use Rattle.exec_journal.specs.Attempts.{ended}
use Rattle.exec_journal.specs.Entries.{Request, same_attempt, is_unwritten}
use Rattle.exec_journal.specs.Facts.{begun}
use Rattle.list_lemmas.specs.Options.{or_else, unless_before, and_more}
use Rattle.exec_journal.specs.Rules.{gathered}
use Rattle.run_plan.specs.Groups.{group_of}
use Rattle.exec_journal.specs.Settled.{bound}
use Rattle.list_lemmas.specs.Places.{update}
use Rattle.exec_journal.specs.Words.{halted, last_line, launch_of, line_cause, was_taken, sends, pending, is_pending, wrote, wrote_if, write_cause, if_line, granted, grant_of, commit_of, answered, has_ended, order_of, says_feed_fault, started, was_killed, broke}
use Rattle.exec_journal.proofs.Begins.{attempts_in_order, attempt_other, begin_in_order, same_attempt_eq}
use Rattle.exec_journal.proofs.Ruled.{by_bool}
use Rattle.list_lemmas.proofs.Updates.{get_update}
use Rattle.worker_pool.specs.Entries.{WantedStays, IsPendingOn, IsPendingNowhere, is_of}
use Rattle.worker_pool.specs.Rows as rows
use Rattle.worker_pool.specs.Stands as pools
use Rattle.worker_pool.specs.Stands.{line_in}
use Rattle.worker_pool.specs.declared.LineRow.{LineRow}
use Rattle.worker_pool.proofs.Bound.{writes_unbind}
use Rattle.worker_pool.proofs.Freed.{faults_kept, gone_faults_kept, late_faults_kept}
use Rattle.worker_pool.proofs.Lives.{ended_broke}
use Rattle.worker_pool.proofs.Once.{pending_on, pending_nowhere}
use Rattle.worker_pool.proofs.Words.{feed_same}
use Rattle.request_table.specs.Entries.{EachOf, IsKnownBy, NoneIsPending}
use Rattle.request_table.specs.Rows.{line_room}
use Rattle.request_table.proofs.Kept as asks
use Rattle.request_table.proofs.Lists.{map_map, map_reverse}
use Rattle.cancel_rules.proofs.Followed as marks
use Rattle.race_core.proofs.Kept as races
use Rattle.ready_order.specs.Stands as queue-stands
use Rattle.core_tables.specs.declared.matches.Match.{Match}
use Rattle.core_state.specs.declared.state.State.{State}
use Rattle.table_laws.specs.Moments.{JournalFacts, AreUsed, SentInGroup}
use Rattle.call_laws.specs.Moments.{BranchOf}
use Rattle.core_tables.specs.Last.{row_of, row_by, fed_of, set_cause}
use Rattle.core_state.specs.Machine.{with_end, states_after, order_at}
use Rattle.core_tables.specs.Matches.{match_in, matches_in, spend_if, spent_row, with_spent}
use Rattle.call_laws.specs.Matches.{Matched, recent, is_faulty}
use Rattle.core_state.specs.Noted.{noted_after}
use Rattle.core_laws.specs.Premises.{EndsTogether}
use Rattle.core_state.specs.Reports.{breached, dropped_from, spent_for, is_pending_at, unwritten_with, unwritten_by, wrote_with, sent_in}
use Rattle.core_laws.specs.Stands.{Stands, MayCall}
use Rattle.core_laws.proofs.Asked.{each_place, sends_begun, waiting_is}
use Rattle.core_laws.proofs.Orders.{get_map}
use Rattle.core_laws.proofs.Own.{lanes_kept, last_kept, IsQuiet, map_matches}
use Rattle.core_laws.proofs.Rowed.{berth_of, changed_last, sent_is}
use Rattle.core_laws.proofs.Several.{several_counts, several_states, one_test}
use Rattle.core_laws.proofs.Greeted.{quiet_greetings}
use Rattle.exec_journal.specs.Lawful.{LawfulEntry}
use Rattle.exec_journal.specs.Seated.{group_on}

-- ---- the matches, after a Wrote that says a fault of its request

module _ (seats : ℕ) (j : List Entry) (lane l : ℕ) (n : ℤ) (how : Written) (q : Request)
    (faulty : is_faulty (Some how) ≡ true) (order : order_of j lane ≡ Some q)
    (first : wrote j q.attempt ≡ None) where
  abbrev pub write_entry : Entry
  write_entry = record { lane = lane; call = call.Wrote l n how; reply = reply.Noted }

  pub now_wrote : (u : Attempt) → wrote (write_entry ∷ j) u ≡ unless_before
      (cond (same_attempt q.attempt u) (Some how) None) (wrote j u)
  unfolding wrote
  now_wrote u = ap (λ (o : Option Request). unless_before (wrote_if u (call.Wrote l n how) o)
      (wrote j u)) order

  now_faulty : (u : Attempt) → is_faulty (wrote (write_entry ∷ j) u) ≡
      (same_attempt q.attempt u || is_faulty (wrote j u))
  now_faulty u = ap is_faulty (now_wrote u) ∙ by_bool (same_attempt q.attempt u)
      (λ b. same_attempt q.attempt u ≡ b → is_faulty (unless_before (cond b (Some how) None)
      (wrote j u)) ≡ (b || is_faulty (wrote j u)))
      (λ _ h. ap (λ o. is_faulty (unless_before (Some how) o))
      (ap (wrote j) (sym (same_attempt_eq q.attempt u h)) ∙ first) ∙ faulty) (λ _ h. refl) refl

  shuffle : (x g w v : Bool) → (x || (g || (w || v))) ≡ (g || ((x || w) || v))
  shuffle true true w v = refl
  shuffle true false w v = refl
  shuffle false g w v = refl

  spent_match : (m : Matched) → spend_if q.attempt (match_in j m) ≡ match_in (write_entry ∷ j) m
  unfolding granted grant_of gathered
  spent_match m =
      ap (λ b. record {
        line = m.line;
        number = m.number;
        attempt = m.attempt;
        exit = m.exit;
        refused = m.refused;
        spent = b;
      })
      (shuffle (same_attempt q.attempt m.attempt) (gathered j m.attempt)
      (is_faulty (wrote j m.attempt)) (granted j m.attempt.action)
      ∙ ap (λ b. gathered j m.attempt || (b || granted j m.attempt.action))
      (sym (now_faulty m.attempt)))

  abbrev rec : List Match → ArrayVec Match
  rec xs = record { items = xs }

  recent_stays : (w : ℕ) (b : Bool) → cond (b && false) []
      (and_more (cond b None None) (recent j w)) ≡ recent j w
  recent_stays w true = refl
  recent_stays w false = refl

  recent_after : (w : ℕ) → recent (write_entry ∷ j) w ≡ recent j w
  unfolding recent
  recent_after w = recent_stays w (lane / 2 == w)

  spent_row_is : (w : ℕ) (b : Bool) → option_map (spent_row q.attempt)
      (cond b (Some (rec (reverse (map (match_in j) (recent j w))))) None) ≡ cond b
      (Some (rec (reverse (map (match_in (write_entry ∷ j)) (recent (write_entry ∷ j) w))))) None
  spent_row_is w false = refl
  spent_row_is w true =
      ap (λ xs. Some (rec xs)) (map_reverse (spend_if q.attempt) (map (match_in j) (recent j w))
      ∙ ap reverse (map_map (spend_if q.attempt) (match_in j) (recent j w)
      ∙ map_matches seats j write_entry (λ m. spend_if q.attempt (match_in j m))
      (match_in (write_entry ∷ j)) (recent j w) spent_match))
      ∙ ap (λ xs. Some (rec (reverse (map (match_in (write_entry ∷ j)) xs)))) (sym (recent_after w))

  pub fault_spends : (ms : List (ArrayVec Match)) → ((w : ℕ) → slice_get ms w ≡ matches_in seats j w)
      → (w : ℕ) → slice_get (with_spent ms q.attempt) w ≡ matches_in seats (write_entry ∷ j) w
  unfolding matches_in
  fault_spends ms h w = get_map (spent_row q.attempt) ms w
      ∙ ap (option_map (spent_row q.attempt)) (h w) ∙ spent_row_is w (nat_lt w seats)

-- ---- RoomFault, TooLarge

fault_of : (how : Written) → is_unwritten how ≡ true → is_faulty (Some how) ≡ true
fault_of write.Done h = absurd (cc)
fault_of write.FeedFault h = absurd (cc)
fault_of write.RoomFault h = refl
fault_of write.TooLarge h = refl

no_feed_fault : (how : Written) (b : Bool) → is_unwritten how ≡ true
    → says_feed_fault (cond b (Some how) None) ≡ false
no_feed_fault write.Done b h = absurd (cc)
no_feed_fault write.FeedFault b h = absurd (cc)
no_feed_fault write.RoomFault true h = refl
no_feed_fault write.RoomFault false h = refl
no_feed_fault write.TooLarge true h = refl
no_feed_fault write.TooLarge false h = refl

cause_is : (j : List Entry) (how : Written) (q : Request) → is_unwritten how ≡ true
    → write_cause j how (Some q) ≡ cond (answered j q.attempt) (Some cause.Breach) None
cause_is j write.Done q h = absurd (cc)
cause_is j write.FeedFault q h = absurd (cc)
cause_is j write.RoomFault q h = refl
cause_is j write.TooLarge q h = refl

pub state_is : (s : State) (lane w l : ℕ) (n : ℤ) (how : Written) → is_unwritten how ≡ true
    → wrote_with s lane w l n how ≡ unwritten_by s w l n (sent_in (order_at s lane))
state_is s lane w l n write.Done h = absurd (cc)
state_is s lane w l n write.FeedFault h = absurd (cc)
state_is s lane w l n write.RoomFault h = refl
state_is s lane w l n write.TooLarge h = refl

find_same : (f g : Request → Bool) (xs : List Request) → ((x : Request) → f x ≡ g x)
    → find f xs ≡ find g xs
find_same f g [] h = refl
find_same f g (x ∷ xs) h = λ i. cond (h x i) (Some x) (find_same f g xs h i)

-- a row that a change leaves as it is
update_same : {X : Type 0} (g : X → X) (xs : List X) (i : ℕ)
    → ((x : X) → slice_get xs i ≡ Some x → g x ≡ x) → update g xs i ≡ xs
update_same g [] i h = refl
update_same g (x ∷ xs) zero h = ap (λ y. y ∷ xs) (h x refl)
update_same g (x ∷ xs) (suc i) h = ap (λ ys. x ∷ ys) (update_same g xs i h)

if_none : (k l : ℕ) → ◌≡◌ {A = Option Cause} (if_line k l None) None
if_none k l = by_bool (k == l) (λ b. ◌≡◌ {A = Option Cause} (cond b None None) None) (λ _. refl)
    (λ _. refl)

module _ (p : Plan) (seats : ℕ) (s : State) (j : List Entry) (lane l : ℕ) (n : ℤ) (how : Written) (q : Request)
    (i : ℕ) (st : Stands p seats s j) (facts : JournalFacts p j)
    (may : MayCall p seats j lane (call.Wrote l n how)) (here : last_line j (lane / 2) ≡ Some l)
    (un : is_unwritten how ≡ true) (order : order_of j lane ≡ Some q) (own_line : q.line ≡ l)
    (place : slice_get (sends j l) i ≡ Some q) (first : wrote j q.attempt ≡ None)
    (known : IsKnownBy j l n q.attempt) (used : AreUsed p j)
    (grouped : SentInGroup p j l)
    (stays : WantedStays p j (record {
      lane = lane;
      call = call.Wrote l n how;
      reply = reply.Noted;
    }))
    (ends : (u : Attempt) → ended (record {
      lane = lane;
      call = call.Wrote l n how;
      reply = reply.Noted;
    } ∷ j) u ≡ (ended j u || (same_attempt q.attempt u
    && not (granted j q.attempt.action)))) where
  abbrev e : Entry
  e = record { lane = lane; call = call.Wrote l n how; reply = reply.Noted }

  abbrev t : Attempt
  t = q.attempt

  joins : LawfulEntry p j e
  joins = record { scripted = may.scripted; told = refl; kept = refl }

  same_grant : (a : ℕ) → grant_of (e ∷ j) a ≡ grant_of j a
  unfolding grant_of
  same_grant a = refl

  same_commit : (a : ℕ) (b : Branch) → commit_of (e ∷ j) a b ≡ commit_of j a b
  unfolding commit_of
  same_commit a b = refl

  start : begun j t ≡ true
  start = each_place (λ r. begun j r.attempt ≡ true) (sends j l) i q (sends_begun j l) place

  together : EndsTogether j e (t ∷ [])
  together = record {
    these = λ u. ends u ∙ ap (λ b. ended j u || b) (one_test j t u);
    none_begins = λ a b. attempt_other e j a b refl;
    grant = same_grant;
    commit = same_commit;
  }

  ready_is : queue-stands.Stands p (states_after s.plan s.race s.attempts s.ready t) (e ∷ j)
  ready_is = subst (λ (x : Plan). queue-stands.Stands p (states_after x s.race s.attempts s.ready t)
      (e ∷ j)) (sym st.plan)
      (several_states p st.sound.least s.race j e (t ∷ [])
      (record {
        order = attempts_in_order p j st.lawful;
        unbegun = facts.unbegun_goes;
        won = st.race;
      }) ((start, used t start), tt) together s.attempts st.attempts s.ready
      st.ready)

  feed_stays : (u : Attempt) → says_feed_fault (wrote (e ∷ j) u) ≡ says_feed_fault (wrote j u)
  feed_stays u = ap says_feed_fault (now_wrote seats j lane l n how q (fault_of how un) order first u)
      ∙ feed_same (cond (same_attempt t u) (Some how) None) (wrote j u)
      (no_feed_fault how (same_attempt t u) un)

  -- ---- it was pending

  quiet : answered j t ≡ false → IsQuiet seats j e
  quiet unanswered = record {
    no_launch = refl;
    no_send = refl;
    no_take = λ m. refl;
    no_break = λ m. ap (λ (o : Option Request). if_line l m (write_cause j how o)) order
        ∙ ap (if_line l m) (cause_is j how q un ∙ ap (λ b. cond b (Some cause.Breach) None)
        unanswered) ∙ if_none l m;
    no_feed = feed_stays;
  }

  pending_stands : answered j t ≡ false → IsPendingOn j t l
      → Stands p seats (noted_after (with_end (spent_for (dropped_from s l n) t) t) lane
      (call.Wrote l n how) reply.Noted) (e ∷ j)
  unfolding halted
  pending_stands unanswered on = record {
    plan = st.plan;
    sound = st.sound;
    lawful = (st.lawful, joins);
    seated = (st.seated, may.berth);
    few = st.few;
    pool = faults_kept p seats s.pool j lane l n how q st.pool un order
        (writes_unbind p j lane l n how stays) unanswered first l on;
    requests = asks.faults_kept j lane l n how p s.requests q order un first st.requests known;
    cancels = marks.faults_kept p s.cancels j lane l n how st.cancels q order un first known;
    ready = ready_is;
    race = races.others p s.race j (e ∷ j) st.race (record {
      grant = same_grant;
      commit = same_commit;
    });
    attempts = several_counts p st.sound.least s.race j e (t ∷ [])
        (record {
          order = attempts_in_order p j st.lawful;
          unbegun = facts.unbegun_goes;
          won = st.race;
        }) ((start, used t start), tt) together s.attempts st.attempts s.ready
        st.ready;
    lanes = lanes_kept seats j e s.lanes st.lanes;
    greetings = quiet_greetings seats j e refl refl s.greetings st.greetings;
    last = last_kept seats j e (quiet unanswered) s.last st.last;
    matches = fault_spends seats j lane l n how q (fault_of how un) order first s.matches st.matches;
    halted = st.halted;
  }

  -- ---- it wasn't: it was answered, or its line has ended

  cause_more : (o : Option Cause) → unless_before (Some cause.Breach) o ≡ or_else o
      (Some cause.Breach)
  cause_more None = refl
  cause_more (Some d) = refl

  is_there : (o : Option Cause) → is_some o ≡ true → o ≡ or_else o (Some cause.Breach)
  is_there (Some d) h = refl
  is_there None h = absurd (cc)

  now_broke : (m : ℕ) → line_cause (e ∷ j) m ≡ unless_before
      (if_line l m (cond (answered j t) (Some cause.Breach) None)) (line_cause j m)
  unfolding line_cause
  now_broke m = ap (λ (o : Option Request). unless_before (if_line l m (write_cause j how o))
      (line_cause j m)) order ∙ ap (λ (o : Option Cause). unless_before (if_line l m o)
      (line_cause j m)) (cause_is j how q un)

  find_fed : (m : ℕ) → fed_of (e ∷ j) m ≡ fed_of j m
  unfolding fed_of sends
  find_fed m = ap (option_map (λ r. r.attempt)) (find_same
      (λ r. says_feed_fault (wrote (e ∷ j) r.attempt)) (λ r. says_feed_fault (wrote j r.attempt))
      (sends j m) (λ r. feed_stays r.attempt))

  other_row : (k : ℕ) → (l == k) ≡ false → row_of (e ∷ j) (Some k) ≡ row_of j (Some k)
  unfolding launch_of was_taken
  other_row k h =
      let c : line_cause (e ∷ j) k ≡ line_cause j k = now_broke k
      ∙ ap (λ b. unless_before (cond b (cond (answered j t) (Some cause.Breach) None) None)
      (line_cause j k)) h in
      λ z. row_by (option_map (λ x. x.1) (launch_of j k)) (was_taken j k) (c z) (find_fed k z)

  own_row : (line_cause (e ∷ j) l ≡ or_else (line_cause j l) (Some cause.Breach))
      → row_of (e ∷ j) (Some l) ≡ set_cause cause.Breach (row_of j (Some l))
  unfolding launch_of was_taken
  own_row c = λ z. row_by (option_map (λ x. x.1) (launch_of j l)) (was_taken j l) (c z)
      (find_fed l z)

  own_cause : (answered j t ≡ false → has_ended j l ≡ true)
      → line_cause (e ∷ j) l ≡ or_else (line_cause j l) (Some cause.Breach)
  own_cause over = by_bool (answered j t) (λ b. answered j t ≡ b
      → line_cause (e ∷ j) l ≡ or_else (line_cause j l) (Some cause.Breach))
      (λ _ h. now_broke l ∙ (λ z. unless_before (cond (eq-eqb l l refl z)
      (cond (h z) (Some cause.Breach) None) None) (line_cause j l))
      ∙ cause_more (line_cause j l))
      (λ _ h. now_broke l ∙ (λ z. unless_before (cond (eq-eqb l l refl z)
      (cond (h z) (Some cause.Breach) None) None) (line_cause j l))
      ∙ is_there (line_cause j l) (ended_broke j l (over h))) refl

  broken_in : Option LineRow → Bool
  broken_in (Some z) = z.broken
  broken_in None = false

  row_broken : (x : LineRow) → Some x ≡ line_in p j l → has_ended j l ≡ true → rows.set_broken x ≡ x
  unfolding line_in broken_in
  row_broken x h over = by (launch_of j l) h
    where
      by : (o : Option (ℕ × Attempt)) → Some x ≡ pools.row_of p o (started j l) (broke j l)
          (has_ended j l) (was_killed j l) (is_some (bound p j l)) (length (pending j l))
          → rows.set_broken x ≡ x
      by None k = absurd (cc)
      by (Some y) k = ap (λ v. record x { broken = v }) (sym
          (ap broken_in k ∙ ended_broke j l over))

  broken_already : has_ended j l ≡ true → rows.change s.pool l rows.set_broken ≡ s.pool
  broken_already over = ap (λ ls. record { lines = ls; seats = s.pool.seats; room = s.pool.room })
      (update_same rows.set_broken s.pool.lines l (λ x h. row_broken x
      (sym h ∙ st.pool.each_line l) over))

  past : IsPendingNowhere j t → (k : ℕ) → EachOf (λ r. same_attempt t r.attempt ≡ false)
      (pending j k)
  past nowhere k = none (pending j k) (nowhere.each k)
    where
      none : (rs : List Request) → length (filter (is_of t) rs) ≡ 0
          → EachOf (λ r. same_attempt t r.attempt ≡ false) rs
      none [] h = tt
      none (r ∷ rs) h = by_bool (same_attempt t r.attempt)
          (λ b. same_attempt t r.attempt ≡ b → length (cond b (r ∷ filter (is_of t) rs)
          (filter (is_of t) rs)) ≡ 0 → EachOf (λ x. same_attempt t x.attempt ≡ false) (r ∷ rs))
          (λ _ _ g. absurd (omega arith)) (λ _ is g. (is, none rs g)) refl h

  past_stands : IsPendingNowhere j t → (answered j t ≡ false → has_ended j l ≡ true)
      → Stands p seats (noted_after (with_end (spent_for (breached s (lane / 2) l) t) t) lane
      (call.Wrote l n how) reply.Noted) (e ∷ j)
  unfolding halted
  past_stands nowhere over = record {
    plan = st.plan;
    sound = st.sound;
    lawful = (st.lawful, joins);
    seated = (st.seated, may.berth);
    few = st.few;
    pool = by_bool (answered j t) (λ b. answered j t ≡ b
        → pools.Stands p seats (rows.change s.pool l rows.set_broken) (e ∷ j))
        (λ _ h. late_faults_kept p seats s.pool j lane l n how q st.pool un order
        (writes_unbind p j lane l n how stays) h)
        (λ _ h. subst (λ f. pools.Stands p seats f (e ∷ j)) (sym (broken_already (over h)))
        (gone_faults_kept p seats s.pool j lane l n how q st.pool un order
        (writes_unbind p j lane l n how stays) h first nowhere)) refl;
    requests = asks.past_kept j lane l n how p s.requests st.requests
        (subst (NoneIsPending j) (sym order) (past nowhere));
    cancels = marks.past_kept p s.cancels j lane l n how st.cancels
        (subst (NoneIsPending j) (sym order) (past nowhere));
    ready = ready_is;
    race = races.others p s.race j (e ∷ j) st.race (record {
      grant = same_grant;
      commit = same_commit;
    });
    attempts = several_counts p st.sound.least s.race j e (t ∷ [])
        (record {
          order = attempts_in_order p j st.lawful;
          unbegun = facts.unbegun_goes;
          won = st.race;
        }) ((start, used t start), tt) together s.attempts st.attempts s.ready
        st.ready;
    lanes = lanes_kept seats j e s.lanes st.lanes;
    greetings = quiet_greetings seats j e refl refl s.greetings st.greetings;
    last = changed_last p seats s j e l st here (set_cause cause.Breach) refl
        (own_row (own_cause over)) other_row (update (set_cause cause.Breach) s.last (lane / 2))
        (λ v. get_update (set_cause cause.Breach) s.last (lane / 2) v);
    matches = fault_spends seats j lane l n how q (fault_of how un) order first s.matches st.matches;
    halted = st.halted;
  }

  -- ---- either

  is_pending_is : (b : Bool) → is_pending j q ≡ b → is_pending_at s l t ≡ b
  is_pending_is b h =
      let below = (berth_of p seats s j (lane / 2) l st here).below in
      let fit = facts.lines_fit in
      let inside : l < line_room p = omega arith in
      let own = each_place (λ r. BranchOf p r.attempt (group_on p j l)) (sends j l) i q grouped place
      in
      let run = used t start in
      let group : group_on p j l ≡ Some run.group = sym own ∙ ap (option_and_then
      (λ x. group_of x t.branch)) run.place ∙ run.runs in
      waiting_is p s.requests j l st.requests inside st.sound
      run.group group grouped t (own ∙ group) ∙ by b h
    where
      by : (c : Bool) → is_pending j q ≡ c → nat_lt 0 (length (filter (is_of t) (pending j l))) ≡ c
      by true k = ap (λ m. nat_lt 0 m) ((pending_on j (begin_in_order p j st.lawful) l i q place
          k).each l ∙ ap (λ c. cond c 1 0) (eq-eqb l l refl))
      by false k = ap (λ m. nat_lt 0 m) ((pending_nowhere j
          (begin_in_order p j st.lawful) l i q place k).each l)

  or_over : is_pending j q ≡ false → answered j t ≡ false → has_ended j l ≡ true
  unfolding is_pending
  or_over h unanswered = by_bool (has_ended j l) (λ b. has_ended j l ≡ b → b ≡ true) (λ _ _. refl)
      (λ _ k. absurd (let z : is_pending j q ≡ true = rw (unanswered, first, own_line, k) refl in
      cc)) refl

  was_unanswered : is_pending j q ≡ true → answered j t ≡ false
  unfolding is_pending
  was_unanswered h = by_bool (answered j t) (λ b. answered j t ≡ b → b ≡ false)
      (λ _ k. absurd (let z : is_pending j q ≡ false = rw k refl in cc)) (λ _ _. refl) refl

  unwritten_stands : Stands p seats (noted_after (unwritten_with s (lane / 2) l n t) lane
      (call.Wrote l n how) reply.Noted) (e ∷ j)
  unwritten_stands = by_bool (is_pending j q) (λ b. is_pending j q ≡ b
      → Stands p seats (noted_after (unwritten_with s (lane / 2) l n t) lane
      (call.Wrote l n how) reply.Noted) (e ∷ j))
      (λ _ h. subst (λ b. Stands p seats (noted_after (with_end
      (spent_for (cond b (dropped_from s l n) (breached s (lane / 2) l)) t) t) lane
      (call.Wrote l n how) reply.Noted) (e ∷ j)) (sym (is_pending_is true h))
      (pending_stands (was_unanswered h) (pending_on j (begin_in_order p j st.lawful) l i q place
      h)))
      (λ _ h. subst (λ b. Stands p seats (noted_after (with_end
      (spent_for (cond b (dropped_from s l n) (breached s (lane / 2) l)) t) t) lane
      (call.Wrote l n how) reply.Noted) (e ∷ j)) (sym (is_pending_is false h))
      (past_stands (pending_nowhere j (begin_in_order p j st.lawful) l i q place h) (or_over h)))
      refl

  pub write_fault_stands : Stands p seats (noted_after (wrote_with s lane (lane / 2) l n how) lane
      (call.Wrote l n how) reply.Noted) (e ∷ j)
  write_fault_stands = subst (λ x. Stands p seats (noted_after x lane (call.Wrote l n how) reply.Noted)
      (e ∷ j))
      (sym (state_is s lane (lane / 2) l n how un ∙ ap (unwritten_by s (lane / 2) l n)
      (sent_is p seats s j lane (call.Wrote l n how) st may ∙ ap
      (option_map (λ r. r.attempt)) order))) unwritten_stands
