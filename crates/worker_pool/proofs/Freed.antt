-- What is kept of a line when a request on it is pending no longer.
use Rattle.std.proofs.Common.{◌≡◌, ℕ, ◌+◌, ◌-◌, ◌==◌, Bool, true, false, ◌&&◌, ◌||◌, not, cond, List, [], ◌∷◌, length, Option, Some, None, is_some, ◌⊎◌, inl, inr, refl, ap, sym, subst, ◌∙◌, arith}
use Rattle.std.specs.List.{filter}
use Rattle.std.specs.Prelude.{ℤ}
use Rattle.std.proofs.lemmas.List.Filters.{length-filter_both}
use Rattle.run_plan.specs.declared.plan.Plan.{Plan}
use Rattle.exec_journal.specs.declared.attempt.Attempt.{Attempt}
use Rattle.exec_journal.specs.declared.ends.Cause.{Cause}
use Rattle.exec_journal.specs.declared.ends.Cause.TheVariants as cause
use Rattle.exec_journal.specs.Entry.{Entry}
use Rattle.exec_journal.specs.declared.call.Answer.{Answer}
use Rattle.exec_journal.specs.declared.call.Call.TheVariants as call
use Rattle.exec_journal.specs.declared.call.Written.{Written}
use Rattle.exec_journal.specs.declared.call.Written.TheVariants as write
use Rattle.exec_journal.specs.declared.reply.Reply.{Reply}
use Rattle.exec_journal.specs.declared.reply.Reply.TheVariants as reply
use Rattle.list_lemmas.specs.Options.{or_else, unless_before}
use Rattle.exec_journal.specs.Entries.{Request, same_attempt, is_for, launch_in, send_in, consumed_in, is_unwritten}
use Rattle.exec_journal.specs.Words.{launch_of, started, has_ended, was_killed, sends, answered, wrote, wrote_if, says_unwritten, says_feed_fault, is_pending, pending, line_cause, break_by, write_cause, if_line, order_of, granted}
use Rattle.exec_journal.specs.Attempts.{carrier_in, line_of, fault_of, lost_cause, over, end_of, ended}
use Rattle.exec_journal.specs.Facts.{SameActions}
use Rattle.exec_journal.proofs.Begins.{same_attempt_eq}
use Rattle.exec_journal.proofs.Quiet.{end_same}
use Rattle.exec_journal.proofs.Ruled.{by_bool}
use Rattle.worker_pool.specs.Rows.{Facts, change, set_broken, one_fewer}
use Rattle.worker_pool.specs.Stands.{Stands}
use Rattle.worker_pool.specs.Entries.{is_of, pending_of_attempt, IsPendingOn, IsPendingNowhere}
use Rattle.worker_pool.proofs.Kept.{broken_row, fewer_row, one_changes, none_changes, row_by}
use Rattle.worker_pool.proofs.Lives.{broken_if, unended}
use Rattle.worker_pool.proofs.Words.{Unbinds, none_both, same_actions, granted_same, unbinds_nothing, sends_same, filter_same, pending_same}

-- ---- how many are left

-- a test that drops the requests of an attempt
abbrev but : Attempt → (Request → Bool) → Request → Bool
but t test q = not (is_of t q) && test q

filter_both : (same test : Request → Bool) (xs : List Request) → filter (λ q. not (same q) && test q) xs ≡ filter (λ q. not (same q)) (filter test xs)
filter_both same test [] = refl
filter_both same test (x ∷ xs) =
    let rest = filter_both same test xs in
    by_bool (test x) (λ t. cond (not (same x) && t) (x ∷ filter (λ q. not (same q) && test q) xs) (filter (λ q. not (same q) && test q) xs) ≡ filter (λ q. not (same q)) (cond t (x ∷ filter test xs) (filter test xs)))
    (λ _. elim (same x) as (λ s. cond (not s && true) (x ∷ filter (λ q. not (same q) && test q) xs) (filter (λ q. not (same q) && test q) xs) ≡ cond (not s) (x ∷ filter (λ q. not (same q)) (filter test xs)) (filter (λ q. not (same q)) (filter test xs))) [
      | true ↦ rest
      | false ↦ ap (λ qs. x ∷ qs) rest
    ])
    (λ _. elim (same x) as (λ s. cond (not s && false) (x ∷ filter (λ q. not (same q) && test q) xs) (filter (λ q. not (same q) && test q) xs) ≡ filter (λ q. not (same q)) (filter test xs)) [ true ↦ rest | false ↦ rest ])

left_over : (c : Bool) (a b n : ℕ) → b + a ≡ n → b ≡ cond c 1 0 → a ≡ cond c (n - 1) n
left_over true a b n h e = omega arith
left_over false a b n h e = omega arith

-- the entry sends nothing, and leaves pending what isn't of the attempt
module _ (e : Entry) (j : List Entry) (t : Attempt) (unsent : send_in e.reply ≡ None) (same : (q : Request) → is_pending (e ∷ j) q ≡ but t (is_pending j) q) where
  count_after : (m : ℕ) → pending_of_attempt j t m + length (pending (e ∷ j) m) ≡ length (pending j m)
  unfolding pending
  count_after m =
      ap (λ qs. length (filter (is_of t) (filter (is_pending j) (sends j m))) + length qs)
      (filter_same (is_pending (e ∷ j)) (but t (is_pending j)) (sends (e ∷ j) m) same ∙ ap (filter (but t (is_pending j))) (sends_same e j unsent m) ∙ filter_both (is_of t) (is_pending j) (sends j m))
      ∙ length-filter_both (is_of t) (λ q. not (is_of t q)) (λ q. refl) (filter (is_pending j) (sends j m))

  pub fewer_pending : (l : ℕ) → IsPendingOn j t l → (m : ℕ) → cond (l == m) (length (pending j m) - 1) (length (pending j m)) ≡ length (pending (e ∷ j) m)
  fewer_pending l on m = sym (left_over (l == m) (length (pending (e ∷ j) m)) (pending_of_attempt j t m) (length (pending j m)) (count_after m) (on.each m))

  pub as_pending : IsPendingNowhere j t → (m : ℕ) → length (pending j m) ≡ length (pending (e ∷ j) m)
  as_pending nowhere m = sym (left_over false (length (pending (e ∷ j) m)) (pending_of_attempt j t m) (length (pending j m)) (count_after m) (nowhere.each m))

-- ---- an answer that is consumed

consumed_launch : (x : Reply) (t : Attempt) → consumed_in x ≡ Some t → launch_in x ≡ None
consumed_launch (reply.Launch l a b n) t h = absurd (cc)
consumed_launch _ t h = refl

consumed_send : (x : Reply) (t : Attempt) → consumed_in x ≡ Some t → send_in x ≡ None
consumed_send (reply.Send l n a b m) t h = absurd (cc)
consumed_send _ t h = refl

consumed_carrier : (u : Attempt) (x : Reply) (t : Attempt) → consumed_in x ≡ Some t → carrier_in u x ≡ None
consumed_carrier u (reply.Launch l a b n) t h = absurd (cc)
consumed_carrier u (reply.Send l n a b m) t h = absurd (cc)
consumed_carrier u _ t h = refl

consumed_break : (j : List Entry) (o : Option Request) (l k : ℕ) (a : Answer) (x : Reply) (t : Attempt) → consumed_in x ≡ Some t → break_by j o l (call.Answer k a) x ≡ None
consumed_break j o l k a (reply.Breach y) t h = absurd (cc)
consumed_break j o l k a _ t h = refl

-- an answered attempt isn't lost that wasn't before
lost_less : (h s a f : Bool) (c : Option Cause) → (cond (h && (not (s || a) || f)) c None ≡ cond (h && (not a || f)) c None) ⊎ (cond (h && (not (s || a) || f)) c None ≡ None)
lost_less h false a f c = inl refl
lost_less false true a f c = inl refl
lost_less true true true f c = inl refl
lost_less true true false true c = inl refl
lost_less true true false false c = inr refl

or_less : (o q r : Option Cause) → (q ≡ r) ⊎ (q ≡ None) → (or_else o q ≡ or_else o r) ⊎ (or_else o q ≡ None)
or_less (Some c) q r h = inl refl
or_less None q r h = h

or_nothing : (g : Bool) (o : Option Cause) → or_else o (cond g None None) ≡ o
or_nothing true None = refl
or_nothing true (Some c) = refl
or_nothing false None = refl
or_nothing false (Some c) = refl

regroup : (x a w h : Bool) → (not (x || a) && (not w && not h)) ≡ (not x && (not a && (not w && not h)))
regroup true a w h = refl
regroup false a w h = refl

module _ (p : Plan) (seats : ℕ) (f : Facts) (j : List Entry) (lane l : ℕ) (a : Answer) (x : Reply) (t : Attempt) (s : Stands p seats f j) (consumed : consumed_in x ≡ Some t) where
  abbrev pub answer_entry : Entry
  answer_entry = record { lane = lane; call = call.Answer l a; reply = x }

  now_answered : (u : Attempt) → answered (answer_entry ∷ j) u ≡ (same_attempt t u || answered j u)
  unfolding answered
  now_answered u = ap (λ (o : Option Attempt). is_for u o || answered j u) consumed

  lost_now : (u : Attempt) (o : Option ℕ) → (lost_cause (answer_entry ∷ j) u o ≡ lost_cause j u o) ⊎ (lost_cause (answer_entry ∷ j) u o ≡ None)
  unfolding has_ended wrote line_cause
  lost_now u None = inl refl
  lost_now u (Some m) =
      rw (now_answered u, consumed_break j (order_of j lane) m l a x t consumed)
      (lost_less (has_ended j m) (same_attempt t u) (answered j u) (says_feed_fault (wrote j u)) (line_cause j m))

  over_now : (u : Attempt) → (over (answer_entry ∷ j) u ≡ over j u) ⊎ (over (answer_entry ∷ j) u ≡ None)
  unfolding fault_of line_of
  over_now u = rw (consumed_carrier u x t consumed) (or_less (fault_of j u) (lost_cause (answer_entry ∷ j) u (line_of j u)) (lost_cause j u (line_of j u)) (lost_now u (line_of j u)))

  end_now : (u : Attempt) → end_of (answer_entry ∷ j) u ≡ end_of j u
  unfolding end_of
  end_now u = by (over_now u)
    where
      by : (over (answer_entry ∷ j) u ≡ over j u) ⊎ (over (answer_entry ∷ j) u ≡ None) → end_of (answer_entry ∷ j) u ≡ end_of j u
      by (inl h) = end_same answer_entry j u h (granted_same answer_entry j u.action refl)
      by (inr h) = ap (λ (o : Option Cause). or_else (end_of j u) (cond (granted (answer_entry ∷ j) u.action) None o)) h ∙ or_nothing (granted (answer_entry ∷ j) u.action) (end_of j u)

  pub answer_actions : SameActions j (answer_entry ∷ j)
  unfolding ended
  answer_actions = same_actions answer_entry j (λ u. ap is_some (end_now u)) refl (λ c b. refl)

  answer_pending : (q : Request) → is_pending (answer_entry ∷ j) q ≡ but t (is_pending j) q
  unfolding is_pending wrote has_ended
  answer_pending q = ap (λ b. not b && (not (says_unwritten (wrote j q.attempt)) && not (has_ended j q.line))) (now_answered q.attempt) ∙ regroup (same_attempt t q.attempt) (answered j q.attempt) (says_unwritten (wrote j q.attempt)) (has_ended j q.line)

  answer_cause : (m : ℕ) → line_cause (answer_entry ∷ j) m ≡ line_cause j m
  unfolding line_cause
  answer_cause m = rw (consumed_break j (order_of j lane) m l a x t consumed) refl

  pub answers_kept : IsPendingOn j t l → Stands p seats (change f l one_fewer) (answer_entry ∷ j)
  unfolding started has_ended was_killed
  answers_kept on =
      one_changes p seats f j answer_entry s (consumed_launch x t consumed) l one_fewer (λ m.
      fewer_row p (l == m) (launch_of j m) _ _ _ _ _ _
      ∙ row_by p seats f j answer_entry s (consumed_launch x t consumed) m _ _ _ _ _ _ refl (sym (ap is_some (answer_cause m))) refl refl
      (unended p j answer_entry (unbinds_nothing p answer_entry j (consumed_launch x t consumed) (consumed_send x t consumed) answer_actions) m)
      (fewer_pending answer_entry j t (consumed_send x t consumed) answer_pending l on m))

-- ---- a request that wasn't written

unwritten_cause_of : (j : List Entry) (how : Written) (q : Request) → is_unwritten how ≡ true → write_cause j how (Some q) ≡ cond (answered j q.attempt) (Some cause.Breach) None
unwritten_cause_of j write.Done q h = absurd (cc)
unwritten_cause_of j write.FeedFault q h = absurd (cc)
unwritten_cause_of j write.RoomFault q h = refl
unwritten_cause_of j write.TooLarge q h = refl

module _ (p : Plan) (seats : ℕ) (f : Facts) (j : List Entry) (lane k : ℕ) (n : ℤ) (how : Written) (q : Request) (s : Stands p seats f j) (faulty : is_unwritten how ≡ true) (order : order_of j lane ≡ Some q)
    (u : Unbinds p j (record { lane = lane; call = call.Wrote k n how; reply = reply.Noted }) []) where
  abbrev pub write_entry : Entry
  write_entry = record { lane = lane; call = call.Wrote k n how; reply = reply.Noted }

  now_wrote : (t : Attempt) → wrote (write_entry ∷ j) t ≡ unless_before (cond (same_attempt q.attempt t) (Some how) None) (wrote j t)
  unfolding wrote
  now_wrote t = ap (λ (o : Option Request). unless_before (wrote_if t (call.Wrote k n how) o) (wrote j t)) order

  now_broke : (l : ℕ) → line_cause (write_entry ∷ j) l ≡ unless_before (if_line k l (cond (answered j q.attempt) (Some cause.Breach) None)) (line_cause j l)
  unfolding line_cause
  now_broke l = ap (λ (o : Option Request). unless_before (break_by j o l (call.Wrote k n how) reply.Noted) (line_cause j l)) order ∙ ap (λ (o : Option Cause). unless_before (if_line k l o) (line_cause j l)) (unwritten_cause_of j how q faulty)

  -- of an answered request nothing was pending
  was_answered : answered j q.attempt ≡ true → (r : Request) → is_pending (write_entry ∷ j) r ≡ is_pending j r
  unfolding is_pending answered has_ended
  was_answered is_answered r =
      by_bool (same_attempt q.attempt r.attempt) (λ _. is_pending (write_entry ∷ j) r ≡ is_pending j r)
      (λ same. let known : answered j r.attempt ≡ true = subst (λ (t : Attempt). answered j t ≡ true) (same_attempt_eq q.attempt r.attempt same) is_answered in rw known refl)
      (λ other. let as_before : wrote (write_entry ∷ j) r.attempt ≡ wrote j r.attempt = now_wrote r.attempt ∙ ap (λ b. unless_before (cond b (Some how) None) (wrote j r.attempt)) other in rw as_before refl)

  -- any other isn't pending any longer
  now_unwritten : wrote j q.attempt ≡ None → (r : Request) → is_pending (write_entry ∷ j) r ≡ but q.attempt (is_pending j) r
  unfolding is_pending answered has_ended
  now_unwritten first r =
      by_bool (same_attempt q.attempt r.attempt) (λ b. is_pending (write_entry ∷ j) r ≡ (not b && is_pending j r))
      (λ same. let none : wrote j r.attempt ≡ None = subst (λ (t : Attempt). wrote j t ≡ None) (same_attempt_eq q.attempt r.attempt same) first in
      let says : says_unwritten (wrote (write_entry ∷ j) r.attempt) ≡ true = ap says_unwritten (now_wrote r.attempt ∙ (λ i. unless_before (cond (same i) (Some how) None) (none i))) ∙ faulty in
      rw says (gone (answered j r.attempt)))
      (λ other. let as_before : wrote (write_entry ∷ j) r.attempt ≡ wrote j r.attempt = now_wrote r.attempt ∙ ap (λ b. unless_before (cond b (Some how) None) (wrote j r.attempt)) other in rw as_before refl)
    where
      gone : (b : Bool) → (not b && false) ≡ false
      gone true = refl
      gone false = refl

  unbroken : answered j q.attempt ≡ false → (l : ℕ) → line_cause (write_entry ∷ j) l ≡ line_cause j l
  unbroken unanswered l = now_broke l ∙ ap (λ b. unless_before (if_line k l (cond b (Some cause.Breach) None)) (line_cause j l)) unanswered ∙ ap (λ (o : Option Cause). unless_before o (line_cause j l)) (none_both (k == l))

  pub late_faults_kept : answered j q.attempt ≡ true → Stands p seats (change f k set_broken) (write_entry ∷ j)
  unfolding started has_ended was_killed pending
  late_faults_kept is_answered =
      one_changes p seats f j write_entry s refl k set_broken (λ l.
      broken_row p (k == l) (launch_of j l) _ _ _ _ _ _
      ∙ row_by p seats f j write_entry s refl l _ _ _ _ _ _ refl
      (sym (ap is_some (now_broke l ∙ ap (λ b. unless_before (if_line k l (cond b (Some cause.Breach) None)) (line_cause j l)) is_answered) ∙ broken_if (k == l) cause.Breach (line_cause j l))) refl refl
      (unended p j write_entry u l) (sym (ap length (pending_same write_entry j refl (was_answered is_answered) l))))

  pub faults_kept : answered j q.attempt ≡ false → wrote j q.attempt ≡ None → (l : ℕ) → IsPendingOn j q.attempt l → Stands p seats (change f l one_fewer) (write_entry ∷ j)
  unfolding started has_ended was_killed
  faults_kept unanswered first l on =
      one_changes p seats f j write_entry s refl l one_fewer (λ m.
      fewer_row p (l == m) (launch_of j m) _ _ _ _ _ _
      ∙ row_by p seats f j write_entry s refl m _ _ _ _ _ _ refl (sym (ap is_some (unbroken unanswered m))) refl refl
      (unended p j write_entry u m) (fewer_pending write_entry j q.attempt refl (now_unwritten first) l on m))

  pub gone_faults_kept : answered j q.attempt ≡ false → wrote j q.attempt ≡ None → IsPendingNowhere j q.attempt → Stands p seats f (write_entry ∷ j)
  unfolding started has_ended was_killed
  gone_faults_kept unanswered first nowhere =
      none_changes p seats f j write_entry s refl (λ m.
      row_by p seats f j write_entry s refl m _ _ _ _ _ _ refl (sym (ap is_some (unbroken unanswered m))) refl refl
      (unended p j write_entry u m) (as_pending write_entry j q.attempt refl (now_unwritten first) nowhere m))
