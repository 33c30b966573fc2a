-- An attempt that has ended is over: at each later moment there is a cause for it.
use Rattle.std.proofs.Common.{◌≡◌, ℕ, ◌/◌, Bool, true, false, ◌&&◌, ◌||◌, not, cond, List, [], ◌∷◌, Option, Some, None, is_some, ◌⊎◌, inl, inr, refl, sym, ap, subst, ◌∙◌}
use Rattle.std.specs.Ordering.{int_eq}
use Rattle.std.proofs.lemmas.Bool.{and_parts, and_from, or_cases, or_left, or_right}
use Rattle.run_plan.specs.declared.plan.Plan.{Plan}
use Rattle.exec_journal.specs.declared.attempt.Attempt.{Attempt}
use Rattle.exec_journal.specs.Entry.{Entry}
use Rattle.exec_journal.specs.declared.ends.Cause.{Cause}
use Rattle.exec_journal.specs.declared.call.Answer.{Answer}
use Rattle.exec_journal.specs.declared.call.Call.{Call}
use Rattle.exec_journal.specs.declared.call.Call.TheVariants as call
use Rattle.exec_journal.specs.declared.call.Written.{Written}
use Rattle.exec_journal.specs.declared.call.Written.TheVariants as write
use Rattle.exec_journal.specs.declared.reply.Reply.{Reply}
use Rattle.list_lemmas.specs.Options.{or_else, unless_before}
use Rattle.exec_journal.specs.Entries.{Request, same_attempt, is_for, consumed_in, ends}
use Rattle.exec_journal.specs.Words.{sends, pending, is_pending, answered, wrote, wrote_at, says_feed_fault, has_ended, line_cause, broke, granted}
use Rattle.exec_journal.specs.Attempts.{line_of, fault_of, fault_at, lost_cause, over, end_of, ended}
use Rattle.run_plan.specs.Groups.{is_single}
use Rattle.exec_journal.specs.Seated.{line_kind}
use Rattle.exec_journal.specs.Lawful.{Lawful}
use Rattle.exec_journal.specs.Facts.{BeginInOrder}
use Rattle.exec_journal.proofs.Histories.{AllOf, all_filter, all_head, all_find}
use Rattle.exec_journal.proofs.Reasons as u
use Rattle.exec_journal.proofs.Ruled.{by_bool, not_true}
use Rattle.exec_journal.proofs.Begins.{same_attempt_eq, begin_in_order}
use Rattle.exec_journal.proofs.Quiet.{end_settles}
use Rattle.journal_laws.proofs.Carried.{IsSentOn, sends_on, line_stays, ended_broke}

-- ---- an answer that is consumed has its request

pub record Consumes (p : Plan) (j : List Entry) (lane : ℕ) (c : Call) (t : Attempt) : Type 0 where
  pub line : ℕ
  pub answer : Answer
  pub request : Request
  pub is : c ≡ call.Answer line answer
  pub of : request.attempt ≡ t
  pub asked : u.IsRequest p j line answer request

pub consumes : (p : Plan) (j : List Entry) (lane : ℕ) (c : Call) (x : Reply) (t : Attempt) → u.Ruled p j lane c x → consumed_in x ≡ Some t → Consumes p j lane c t
consumes p j lane c x t (u.IsLate l y q asked g) h = record { line = l; answer = y; request = q; is = refl; of = cc; asked = asked }
consumes p j lane c x t (u.IsMatched l y q asked g) h = record { line = l; answer = y; request = q; is = refl; of = cc; asked = asked }
consumes p j lane c x t (u.KillsBroken l y here run broken over) h = absurd (cc)
consumes p j lane c x t (u.Notes d n) h = absurd (cc)
consumes p j lane c x t _ h = absurd (cc)

pub entry_ruled : (p : Plan) (e : Entry) (j : List Entry) → Lawful p (e ∷ j) → u.Ruled p j e.lane e.call e.reply
entry_ruled p e j legal = u.ruled p j e legal.1

-- what holds of each request of the line holds of that of the answer
pub of_request : (p : Plan) (j : List Entry) (l : ℕ) (x : Answer) (q : Request) (P : Request → Type 0) → u.IsRequest p j l x q → AllOf P (sends j l) → P q
unfolding pending
of_request p j l x q P asked all =
    by_bool (is_single (line_kind p j l)) (λ _. P q)
    (λ one. all_head P (pending j l) q (all_filter P (is_pending j) (sends j l) all) (asked.single one).1)
    (λ many. all_find P (λ y. int_eq y.number x.number) (sends j l) q all (asked.multi many))

-- the answer's line is its attempt's, and isn't broken
pub record IsConsumed (j : List Entry) (l : ℕ) (t : Attempt) : Type 0 where
  pub carrier : line_of j t ≡ Some l
  pub unbroken : broke j l ≡ false
  pub running : has_ended j l ≡ false
  pub unanswered : answered j t ≡ false

pub unended : (j : List Entry) (l : ℕ) → broke j l ≡ false → has_ended j l ≡ false
unended j l whole = by (has_ended j l) refl
  where
    by : (b : Bool) → has_ended j l ≡ b → b ≡ false
    by false is = refl
    by true is = (let both : true ≡ false = sym (ended_broke j l is) ∙ whole in cc)

pub pending_unanswered : (j : List Entry) (q : Request) → is_pending j q ≡ true → answered j q.attempt ≡ false
unfolding is_pending
pending_unanswered j q h = not_true _ (and_parts (not (answered j q.attempt)) _ h).0

pub consumed_open : (p : Plan) (j : List Entry) (lane : ℕ) (c : Call) (t : Attempt) → BeginInOrder j → (h : Consumes p j lane c t) → IsConsumed j h.line t
consumed_open p j lane c t order h =
    let on = of_request p j h.line h.answer h.request (IsSentOn j h.line) h.asked (sends_on j h.line order) in
    record {
      carrier = subst (λ (v : Attempt). line_of j v ≡ Some h.line) h.of on.carrier;
      unbroken = h.asked.unbroken;
      running = unended j h.line h.asked.unbroken;
      unanswered = subst (λ (v : Attempt). answered j v ≡ false) h.of (pending_unanswered j h.request h.asked.is_open);
    }

-- ---- what is over stays over

pub some_is : {X : Type 0} (o : Option X) → is_some o ≡ true → (x : X) × (o ≡ Some x)
some_is (Some x) h = (x, refl)
some_is None h = absurd (cc)

pub is_some_from : {X : Type 0} (o : Option X) (x : X) → o ≡ Some x → is_some o ≡ true
is_some_from o x h = rw h refl

pub fault_stays : (e : Entry) (j : List Entry) (t : Attempt) (c : Cause) → fault_of j t ≡ Some c → fault_of (e ∷ j) t ≡ Some c
unfolding fault_of
fault_stays e j t c h = by (fault_at t j e) (fault_of j t) h
  where
    by : (n o : Option Cause) → o ≡ Some c → unless_before n o ≡ Some c
    by None o k = k
    by (Some d) (Some f) k = k
    by (Some d) None k = absurd (cc)

pub wrote_stays : (e : Entry) (j : List Entry) (t : Attempt) (y : Written) → wrote j t ≡ Some y → wrote (e ∷ j) t ≡ Some y
unfolding wrote
wrote_stays e j t y h = by (wrote_at t j e) (wrote j t) h
  where
    by : (n o : Option Written) → o ≡ Some y → unless_before n o ≡ Some y
    by None o k = k
    by (Some d) (Some f) k = k
    by (Some d) None k = absurd (cc)

pub feed_is : (o : Option Written) → says_feed_fault o ≡ true → o ≡ Some write.FeedFault
feed_is (Some write.FeedFault) h = refl
feed_is _ h = absurd (cc)

pub feed_stays : (e : Entry) (j : List Entry) (t : Attempt) → says_feed_fault (wrote j t) ≡ true → says_feed_fault (wrote (e ∷ j) t) ≡ true
feed_stays e j t h = rw (wrote_stays e j t write.FeedFault (feed_is (wrote j t) h)) refl

-- of a line that has Ended, the tests by which an attempt is lost with it
abbrev pub is_lost : List Entry → Attempt → ℕ → Bool
is_lost j t l = has_ended j l && (not (answered j t) || says_feed_fault (wrote j t))

pub answered_same : (e : Entry) (j : List Entry) (t : Attempt) → is_for t (consumed_in e.reply) ≡ false → answered (e ∷ j) t ≡ answered j t
unfolding answered
answered_same e j t h = rw h refl

pub ended_line_stays : (e : Entry) (j : List Entry) (l : ℕ) → has_ended j l ≡ true → has_ended (e ∷ j) l ≡ true
unfolding has_ended
ended_line_stays e j l h = or_right (ends l e.call) _ h

-- no answer is consumed on a line that has Ended
unconsumed : (p : Plan) (e : Entry) (j : List Entry) (t : Attempt) (l : ℕ) → Lawful p (e ∷ j) → line_of j t ≡ Some l → has_ended j l ≡ true → is_for t (consumed_in e.reply) ≡ false
unconsumed p e j t l legal at over = by (consumed_in e.reply) refl
  where
    by : (o : Option Attempt) → consumed_in e.reply ≡ o → is_for t o ≡ false
    by None is = refl
    by (Some s) is = by_bool (same_attempt s t) (λ b. b ≡ false)
        (λ same. let one = consumes p j e.lane e.call e.reply s (entry_ruled p e j legal) is in
        let here = consumed_open p j e.lane e.call s (begin_in_order p j legal.0) one in
        let s_is = same_attempt_eq s t same in
        let k : line_of j t ≡ Some one.line = subst (λ (v : Attempt). line_of j v ≡ Some one.line) s_is here.carrier in
        let both : Some one.line ≡ Some l = sym k ∙ at in
        let ll : one.line ≡ l = cc in
        let run : has_ended j l ≡ false = subst (λ m. has_ended j m ≡ false) ll here.running in
        let clash : true ≡ false = sym over ∙ run in absurd (cc))
        (λ off. refl)

lost_stays : (p : Plan) (e : Entry) (j : List Entry) (t : Attempt) (l : ℕ) → Lawful p (e ∷ j) → line_of j t ≡ Some l → is_lost j t l ≡ true → is_lost (e ∷ j) t l ≡ true
lost_stays p e j t l legal at h =
    let parts = and_parts (has_ended j l) _ h in
    let same = answered_same e j t (unconsumed p e j t l legal at parts.0) in
    and_from _ _ (ended_line_stays e j l parts.0) (elim (or_cases (not (answered j t)) _ parts.1) [
      | inl free ↦ or_left (not (answered (e ∷ j) t)) _ (ap not same ∙ free)
      | inr fed ↦ or_right (not (answered (e ∷ j) t)) _ (feed_stays e j t fed)
    ])

-- it is over by a fault of its own, or with its line
pub data Ends (j : List Entry) (t : Attempt) : Type 0 where
  Faulted : (c : Cause) → fault_of j t ≡ Some c → Ends j t
  IsLost : (l : ℕ) → line_of j t ≡ Some l → is_lost j t l ≡ true → Ends j t

lost_is : (j : List Entry) (t : Attempt) (o : Option ℕ) (c : Cause) → line_of j t ≡ o → lost_cause j t o ≡ Some c → Ends j t
lost_is j t None c is h = absurd (cc)
lost_is j t (Some l) c is h =
    by_bool (is_lost j t l) (λ b. cond b (line_cause j l) None ≡ Some c → Ends j t) (λ yes _. IsLost l is yes) (λ _ k. absurd (cc)) h

pub over_is : (j : List Entry) (t : Attempt) (c : Cause) → over j t ≡ Some c → Ends j t
over_is j t c h = by (fault_of j t) refl h
  where
    by : (o : Option Cause) → fault_of j t ≡ o → or_else o (lost_cause j t (line_of j t)) ≡ Some c → Ends j t
    by (Some d) is k = Faulted d is
    by None is k = lost_is j t (line_of j t) c refl k

or_some_left : {X : Type 0} (o q : Option X) → is_some o ≡ true → is_some (or_else o q) ≡ true
or_some_left (Some x) q h = refl
or_some_left None q h = absurd (cc)

or_some_right : {X : Type 0} (o q : Option X) → is_some q ≡ true → is_some (or_else o q) ≡ true
or_some_right (Some x) q h = refl
or_some_right None q h = h

pub is_over : (j : List Entry) (t : Attempt) → Ends j t → is_some (over j t) ≡ true
is_over j t (Faulted c is) = or_some_left (fault_of j t) _ (is_some_from _ c is)
is_over j t (IsLost l at lost) =
    or_some_right (fault_of j t) _ (rw (at, lost) (ended_broke j l (and_parts (has_ended j l) _ lost).0))

pub ends_stay : (p : Plan) (e : Entry) (j : List Entry) (t : Attempt) → Lawful p (e ∷ j) → Ends j t → Ends (e ∷ j) t
ends_stay p e j t legal (Faulted c is) = Faulted c (fault_stays e j t c is)
ends_stay p e j t legal (IsLost l at lost) = IsLost l (line_stays e j t l (begin_in_order p (e ∷ j) legal) at) (lost_stays p e j t l legal at lost)

-- ---- an attempt that has ended is over

pub ended_new : (e : Entry) (j : List Entry) (t : Attempt) → ended (e ∷ j) t ≡ true → (ended j t ≡ true) ⊎ ((granted (e ∷ j) t.action ≡ false) × (is_some (over (e ∷ j) t) ≡ true))
unfolding ended end_of
ended_new e j t h = by (end_of j t) refl h
  where
    by : (o : Option Cause) → end_of j t ≡ o → is_some (or_else o (cond (granted (e ∷ j) t.action) None (over (e ∷ j) t))) ≡ true
        → (is_some (end_of j t) ≡ true) ⊎ ((granted (e ∷ j) t.action ≡ false) × (is_some (over (e ∷ j) t) ≡ true))
    by (Some c) is k = inl (is_some_from _ c is)
    by None is k = inr (by_bool (granted (e ∷ j) t.action) (λ b. is_some (cond b None (over (e ∷ j) t)) ≡ true → (b ≡ false) × (is_some (over (e ∷ j) t) ≡ true)) (λ _ m. absurd (cc)) (λ _ m. (refl, m)) k)

pub ended_is : (p : Plan) (j : List Entry) (t : Attempt) → Lawful p j → ended j t ≡ true → Ends j t
unfolding ended end_of
ended_is p [] t legal h = absurd (cc)
ended_is p (e ∷ j) t legal h = by (ended_new e j t h) (λ k. ended_is p j t legal.0 k)
  where
    by : (ended j t ≡ true) ⊎ ((granted (e ∷ j) t.action ≡ false) × (is_some (over (e ∷ j) t) ≡ true)) → (ended j t ≡ true → Ends j t) → Ends (e ∷ j) t
    by (inl old) f = ends_stay p e j t legal (f old)
    by (inr new) f = let c = some_is (over (e ∷ j) t) new.1 in over_is (e ∷ j) t c.0 c.1

-- what is over has ended, but where its action has a grant
pub over_ended : (j : List Entry) (t : Attempt) → granted j t.action ≡ false → Ends j t → ended j t ≡ true
unfolding ended
over_ended j t free over_now =
    by (granted j t.action) free (over j t) (is_over j t over_now) (end_of j t) (end_settles j t)
  where
    by : (g : Bool) → g ≡ false → (v : Option Cause) → is_some v ≡ true → (o : Option Cause) → or_else o (cond g None v) ≡ o → is_some o ≡ true
    by g off v on (Some c) k = refl
    by true off v on None k = absurd (cc)
    by false off (Some c) on None k = absurd (cc)
    by false off None on None k = absurd (cc)
