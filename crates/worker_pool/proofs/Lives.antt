-- What is kept of a line when it starts, breaks, ends or is killed.
use Rattle.std.proofs.Common.{◌≡◌, ℕ, ◌==◌, Bool, true, false, ◌&&◌, ◌||◌, not, cond, List, [], ◌∷◌, length, Option, Some, None, is_some, ◌⊎◌, inl, inr, refl, ap, sym, ◌∙◌}
use Rattle.std.specs.List.{filter}
use Rattle.std.specs.Prelude.{ℤ}
use Rattle.std.proofs.lemmas.Bool.{or_cases}
use Rattle.run_plan.specs.declared.plan.Plan.{Plan}
use Rattle.exec_journal.specs.declared.attempt.Attempt.{Attempt}
use Rattle.exec_journal.specs.declared.ends.Cause.{Cause}
use Rattle.exec_journal.specs.declared.ends.Cause.TheVariants as cause
use Rattle.exec_journal.specs.Entry.{Entry}
use Rattle.exec_journal.specs.declared.call.Answer.{Answer}
use Rattle.exec_journal.specs.declared.call.Call.{Call}
use Rattle.exec_journal.specs.declared.call.Call.TheVariants as call
use Rattle.exec_journal.specs.declared.call.HowEnded.{HowEnded}
use Rattle.exec_journal.specs.declared.call.Started.TheVariants as start
use Rattle.exec_journal.specs.declared.call.Written.TheVariants as write
use Rattle.exec_journal.specs.declared.reply.BreachWhy.{BreachWhy}
use Rattle.exec_journal.specs.declared.reply.Reply.{Reply}
use Rattle.exec_journal.specs.declared.reply.Reply.TheVariants as reply
use Rattle.list_lemmas.specs.Options.{unless_before}
use Rattle.exec_journal.specs.Entries.{Request, ends}
use Rattle.exec_journal.specs.Words.{launch_of, started, has_ended, was_killed, sends, answered, wrote, wrote_at, wrote_if, says_unwritten, end_cause, is_pending, pending, line_cause, break_at, break_by, order_of}
use Rattle.exec_journal.specs.Settled.{bound}
use Rattle.exec_journal.specs.Facts.{SameActions}
use Rattle.exec_journal.proofs.Histories.{AllOf}
use Rattle.exec_journal.proofs.Lines.{sends_line}
use Rattle.exec_journal.proofs.Quiet.{ended_same}
use Rattle.worker_pool.specs.Rows.{Facts, change, set_started, set_broken, set_ended, set_killed}
use Rattle.worker_pool.specs.Stands.{Stands}
use Rattle.worker_pool.proofs.Kept.{started_row, broken_row, ended_row, killed_row, one_changes, row_by}
use Rattle.worker_pool.proofs.Words.{Unbinds, none_both, over_same, same_actions, granted_same, unbinds_nothing, pending_same, is_pending_same, unwritten_same, sends_same}

-- ---- breaks

pub broken_if : (b : Bool) (c : Cause) (o : Option Cause) → is_some (unless_before (cond b (Some c) None) o) ≡ (b || is_some o)
broken_if true c None = refl
broken_if true c (Some d) = refl
broken_if false c o = refl

some_either : {X : Type 0} (o q : Option X) → (is_some o ≡ true) ⊎ (is_some q ≡ true) → is_some (unless_before o q) ≡ true
some_either None q (inl h) = absurd (cc)
some_either None q (inr h) = h
some_either (Some x) None h = refl
some_either (Some x) (Some y) h = refl

end_breaks : (j : List Entry) (o : Option Request) (l : ℕ) (c : Call) (x : Reply) → ends l c ≡ true → is_some (break_by j o l c x) ≡ true
end_breaks j o l (call.Ended k how) x h = rw h refl
end_breaks j o l _ x h = absurd (cc)

-- a line that has ended broke
pub ended_broke : (j : List Entry) (l : ℕ) → has_ended j l ≡ true → is_some (line_cause j l) ≡ true
unfolding has_ended line_cause
ended_broke [] l h = absurd (cc)
ended_broke (e ∷ j) l h = some_either (break_at l j e) (line_cause j l) (by (ended_broke j l) (or_cases (ends l e.call) _ h))
  where
    by : (has_ended j l ≡ true → is_some (line_cause j l) ≡ true) → (ends l e.call ≡ true) ⊎ (has_ended j l ≡ true) → (is_some (break_at l j e) ≡ true) ⊎ (is_some (line_cause j l) ≡ true)
    by rest (inl g) = inl (end_breaks j (order_of j e.lane) l e.call e.reply g)
    by rest (inr g) = inr (rest g)

pub first_stays : {X : Type 0} (o q : Option X) → is_some q ≡ true → unless_before o q ≡ q
first_stays None q h = refl
first_stays (Some x) None h = absurd (cc)
first_stays (Some x) (Some y) h = refl

pub unended : (p : Plan) (j : List Entry) (e : Entry) → Unbinds p j e [] → (l : ℕ) → is_some (bound p j l) ≡ is_some (bound p (e ∷ j) l)
unended p j e u l = sym (u.each l)

module _ (p : Plan) (seats : ℕ) (f : Facts) (j : List Entry) (lane k : ℕ) (s : Stands p seats f j) where
  -- ---- it starts

  abbrev pub start_entry : Entry
  start_entry = record { lane = lane; call = call.Launched k start.Done; reply = reply.Noted }

  pub start_actions : SameActions j (start_entry ∷ j)
  unfolding has_ended answered wrote line_cause
  start_actions =
      same_actions start_entry j
      (λ t. ended_same start_entry j t (over_same start_entry j t (none_both _) refl (λ l. refl) refl refl (λ l h. refl)) (granted_same start_entry j t.action refl))
      refl (λ a b. refl)

  pub starts_kept : Stands p seats (change f k set_started) (start_entry ∷ j)
  unfolding started has_ended was_killed line_cause pending sends is_pending answered wrote
  starts_kept =
      one_changes p seats f j start_entry s refl k set_started (λ l.
      started_row p (k == l) (launch_of j l) _ _ _ _ _ _
      ∙ row_by p seats f j start_entry s refl l _ _ _ _ _ _ refl refl refl refl (unended p j start_entry (unbinds_nothing p start_entry j refl refl start_actions) l) refl)

  -- ---- it is killed

  abbrev pub kill_entry : Entry
  kill_entry = record { lane = lane; call = call.Killed k; reply = reply.Noted }

  pub kill_actions : SameActions j (kill_entry ∷ j)
  unfolding has_ended answered wrote line_cause
  kill_actions =
      same_actions kill_entry j
      (λ t. ended_same kill_entry j t (over_same kill_entry j t refl refl (λ l. refl) refl refl (λ l h. refl)) (granted_same kill_entry j t.action refl))
      refl (λ a b. refl)

  pub kills_kept : Stands p seats (change f k set_killed) (kill_entry ∷ j)
  unfolding started has_ended was_killed line_cause pending sends is_pending answered wrote
  kills_kept =
      one_changes p seats f j kill_entry s refl k set_killed (λ l.
      killed_row p (k == l) (launch_of j l) _ _ _ _ _ _
      ∙ row_by p seats f j kill_entry s refl l _ _ _ _ _ _ refl refl refl refl (unended p j kill_entry (unbinds_nothing p kill_entry j refl refl kill_actions) l) refl)

  -- ---- it breaks, by a write

  module _ (n : ℤ) (u : Unbinds p j (record { lane = lane; call = call.Wrote k n write.FeedFault; reply = reply.Noted }) []) where
    abbrev pub feed_entry : Entry
    feed_entry = record { lane = lane; call = call.Wrote k n write.FeedFault; reply = reply.Noted }

    written_if : (b : Bool) → says_unwritten (cond b (Some write.FeedFault) None) ≡ false
    written_if true = refl
    written_if false = refl

    written_by : (t : Attempt) (o : Option Request) → says_unwritten (wrote_if t feed_entry.call o) ≡ false
    written_by t None = refl
    written_by t (Some q) = written_if _

    feed_pending : (l : ℕ) → pending (feed_entry ∷ j) l ≡ pending j l
    unfolding has_ended answered wrote
    feed_pending = pending_same feed_entry j refl (λ q. is_pending_same feed_entry j q refl (unwritten_same (wrote_at q.attempt j feed_entry) (wrote j q.attempt) (written_by q.attempt (order_of j lane))) refl)

    pub feed_kept : Stands p seats (change f k set_broken) (feed_entry ∷ j)
    unfolding started has_ended was_killed line_cause
    feed_kept =
        one_changes p seats f j feed_entry s refl k set_broken (λ l.
        broken_row p (k == l) (launch_of j l) _ _ _ _ _ _
        ∙ row_by p seats f j feed_entry s refl l _ _ _ _ _ _ refl (sym (broken_if (k == l) cause.Feed (line_cause j l))) refl refl (unended p j feed_entry u l) (sym (ap length (feed_pending l))))

  -- ---- it ends

  module _ (how : HowEnded) (u : Unbinds p j (record { lane = lane; call = call.Ended k how; reply = reply.Noted }) (k ∷ [])) where
    abbrev pub end_entry : Entry
    end_entry = record { lane = lane; call = call.Ended k how; reply = reply.Noted }

    aside_line : (b a w h : Bool) → (not a && (not w && not (b || h))) ≡ (not b && (not a && (not w && not h)))
    aside_line true true w h = refl
    aside_line true false true h = refl
    aside_line true false false h = refl
    aside_line false a w h = refl

    here : (l : ℕ) (q : Request) → q.line ≡ l → is_pending (end_entry ∷ j) q ≡ (not (k == l) && is_pending j q)
    unfolding is_pending answered wrote has_ended
    here l q e = aside_line (k == q.line) (answered j q.attempt) (says_unwritten (wrote j q.attempt)) (has_ended j q.line) ∙ ap (λ m. not (k == m) && is_pending j q) e

    of_line : (l : ℕ) (xs : List Request) → AllOf (λ (q : Request). q.line ≡ l) xs → filter (is_pending (end_entry ∷ j)) xs ≡ filter (λ q. not (k == l) && is_pending j q) xs
    of_line l [] all = refl
    of_line l (q ∷ qs) all = rw (here l q all.0, of_line l qs all.1) refl

    none_left : (b : Bool) (test : Request → Bool) (xs : List Request) → length (filter (λ q. not b && test q) xs) ≡ cond b 0 (length (filter test xs))
    none_left false test xs = refl
    none_left true test [] = refl
    none_left true test (q ∷ qs) = none_left true test qs

    end_pending : (l : ℕ) → length (pending (end_entry ∷ j) l) ≡ cond (k == l) 0 (length (pending j l))
    unfolding pending
    end_pending l = ap (λ qs. length (filter (is_pending (end_entry ∷ j)) qs)) (sends_same end_entry j refl l) ∙ ap length (of_line l (sends j l) (sends_line j l)) ∙ none_left (k == l) (is_pending j) (sends j l)

    one_line : (b v : Bool) → (not (b || false) && v) ≡ (not b && v)
    one_line true v = refl
    one_line false v = refl

    pub ends_kept : Stands p seats (change f k set_ended) (end_entry ∷ j)
    unfolding started has_ended was_killed line_cause
    ends_kept =
        one_changes p seats f j end_entry s refl k set_ended (λ l.
        ended_row p (k == l) (launch_of j l) _ _ _ _ _ _
        ∙ row_by p seats f j end_entry s refl l _ _ _ _ _ _ refl (sym (broken_if (k == l) (end_cause how) (line_cause j l))) refl refl
        (sym (u.each l ∙ one_line (k == l) _)) (sym (end_pending l)))

  -- ---- it breaks, by an answer

  module _ (a : Answer) (y : BreachWhy) where
    abbrev pub breach_entry : Entry
    breach_entry = record { lane = lane; call = call.Answer k a; reply = reply.Breach y }

    pub breach_actions : SameActions j (breach_entry ∷ j)
    unfolding has_ended answered wrote line_cause
    breach_actions =
        same_actions breach_entry j
        (λ t. ended_same breach_entry j t (over_same breach_entry j t refl refl (λ l. refl) refl refl (λ l h. first_stays (break_at l j breach_entry) (line_cause j l) (ended_broke j l h))) (granted_same breach_entry j t.action refl))
        refl (λ c b. refl)

    pub breaches_kept : Stands p seats (change f k set_broken) (breach_entry ∷ j)
    unfolding started has_ended was_killed line_cause pending sends is_pending answered wrote
    breaches_kept =
        one_changes p seats f j breach_entry s refl k set_broken (λ l.
        broken_row p (k == l) (launch_of j l) _ _ _ _ _ _
        ∙ row_by p seats f j breach_entry s refl l _ _ _ _ _ _ refl (sym (broken_if (k == l) cause.Breach (line_cause j l))) refl refl (unended p j breach_entry (unbinds_nothing p breach_entry j refl refl breach_actions) l) refl)
