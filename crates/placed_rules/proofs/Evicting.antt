-- A line that was evicted has nothing left to do, gets nothing more, and so ends no attempt.
use Rattle.std.proofs.Common.{◌≡◌, ℕ, ◌/◌, Bool, true, false, ◌||◌, not, cond, List, [], ◌∷◌, Option, Some, None, is_some, ◌⊎◌, inl, inr, refl, sym, ap, subst, ◌∙◌}
use Rattle.std.specs.List.{filter, find}
use Rattle.std.proofs.lemmas.Bool.{eqb-true, and_parts, or_cases}
use Rattle.run_plan.specs.declared.plan.Plan.{Plan}
use Rattle.exec_journal.specs.declared.attempt.Attempt.{Attempt}
use Rattle.exec_journal.specs.declared.call.Call.{Call}
use Rattle.exec_journal.specs.declared.call.Call.TheVariants as call
use Rattle.exec_journal.specs.declared.call.HowEnded.{HowEnded}
use Rattle.exec_journal.specs.declared.call.Written.{Written}
use Rattle.exec_journal.specs.declared.ends.Cause.{Cause}
use Rattle.exec_journal.specs.declared.ends.Cause.TheVariants as cause
use Rattle.exec_journal.specs.declared.reply.Reply.{Reply}
use Rattle.exec_journal.specs.declared.reply.Reply.TheVariants as reply
use Rattle.exec_journal.specs.declared.reply.Why.TheVariants as why
use Rattle.exec_journal.specs.Entry.{Entry}
use Rattle.exec_journal.specs.Entries.{Request, orders_kill, send_in}
use Rattle.exec_journal.specs.Words.{answered, broke, has_ended, is_pending, kill_ordered, last_line, launch_of, live, pending, says_feed_fault, says_unwritten, sends, sent_on, started, why_of, wrote}
use Rattle.exec_journal.specs.Attempts.{ended}
use Rattle.exec_journal.specs.Settled.{bound}
use Rattle.exec_journal.specs.Lawful.{Lawful, in_script}
use Rattle.call_laws.specs.Moments.{stands_on}
use Rattle.exec_journal.proofs.Histories.{AllOf}
use Rattle.exec_journal.proofs.Reasons as u
use Rattle.exec_journal.proofs.Ruled.{by_bool, not_true}
use Rattle.exec_journal.proofs.Begins.{begin_in_order, bound_is}
use Rattle.journal_laws.proofs.Carried as k
use Rattle.journal_laws.proofs.Claims as c
use Rattle.journal_laws.proofs.Claims.{clash, false_by}
use Rattle.journal_laws.proofs.Lanes as la
use Rattle.journal_laws.proofs.Over as v
use Rattle.journal_laws.proofs.Requests as q
use Rattle.call_laws.proofs.LineEnds as le
use Rattle.call_laws.proofs.Requested as re
use Rattle.call_laws.proofs.Spent.{asking_written}
use Rattle.placed_rules.specs.Evicted.{evicts_line, was_evicted}

-- ---- lists

none_pass : {X : Type 0} (test : X → Bool) (xs : List X) → filter test xs ≡ []
    → AllOf (λ x. test x ≡ false) xs
none_pass test [] h = tt
none_pass test (x ∷ xs) h =
    by_bool (test x) (λ b. test x ≡ b → cond b (x ∷ filter test xs) (filter test xs) ≡ []
    → AllOf (λ y. test y ≡ false) (x ∷ xs))
    (λ _ _ g. absurd (cc)) (λ _ off g. (off, none_pass test xs g)) refl h

all_fail : {X : Type 0} (test : X → Bool) (xs : List X) → AllOf (λ x. test x ≡ false) xs
    → filter test xs ≡ []
all_fail test [] all = refl
all_fail test (x ∷ xs) all = rw all.0 (all_fail test xs all.1)

none_found : {X : Type 0} (test : X → Bool) (xs : List X) → AllOf (λ x. test x ≡ false) xs
    → find test xs ≡ None
none_found test [] all = refl
none_found test (x ∷ xs) all = rw all.0 (none_found test xs all.1)

-- ---- a request of which nothing is to come

pub record IsClosed (j : List Entry) (x : Request) : Type 0 where
  pub closed : is_pending j x ≡ false
  pub how : Written
  pub written : wrote j x.attempt ≡ Some how
  pub fed : says_feed_fault (Some how) ≡ false

closed_stays : (e : Entry) (j : List Entry) (x : Request) → IsClosed j x → IsClosed (e ∷ j) x
closed_stays e j x h = record {
  closed = q.closed_stays e j x h.closed;
  how = h.how;
  written = v.wrote_stays e j x.attempt h.how h.written;
  fed = h.fed;
}

-- nothing is bound to the line, and its requests are closed so
pub record IsEmptied (p : Plan) (j : List Entry) (l : ℕ) : Type 0 where
  pub lane : ℕ
  pub attempt : Attempt
  pub launched : launch_of j l ≡ Some (lane, attempt)
  pub free : bound p j l ≡ None
  pub requests : AllOf (IsClosed j) (sends j l)

none_some : (t : Attempt) → None ≡ Some t → ⊥
none_some t h = cc

emptied_stays : (p : Plan) (e : Entry) (j : List Entry) (l : ℕ) → Lawful p (e ∷ j)
    → sent_on l e.reply ≡ None → IsEmptied p j l → IsEmptied p (e ∷ j) l
emptied_stays p e j l legal none h = record {
  lane = h.lane;
  attempt = h.attempt;
  launched = later;
  free = by (bound p (e ∷ j) l) refl;
  requests = subst (AllOf (IsClosed (e ∷ j))) (sym (q.sends_same e j l none))
      (k.all_map (IsClosed j) (IsClosed (e ∷ j)) (λ x y. closed_stays e j x y) (sends j l)
      h.requests);
}
  where
    later : launch_of (e ∷ j) l ≡ Some (h.lane, h.attempt)
    later = q.launch_later p e j l h.lane h.attempt legal h.launched

    by : (o : Option Attempt) → bound p (e ∷ j) l ≡ o → bound p (e ∷ j) l ≡ None
    by None is = is
    by (Some t) is =
        let b = bound_is p (e ∷ j) l t is in
        let same : Some (h.lane, h.attempt) ≡ Some (b.lane, t) = sym later ∙ b.launched in
        let was = q.bound_before p e j l b.lane t legal (h.launched ∙ same) b in
        absurd (none_some t (sym h.free ∙ was))

-- ---- where a line is evicted it is empty

some_is : {X : Type 0} (o : Option X) → is_some o ≡ true → (x : X) × (o ≡ Some x)
some_is (Some x) h = (x, refl)
some_is None h = absurd (cc)

module _ (p : Plan) (j : List Entry) (lane l : ℕ) (legal : Lawful p j)
    (asks : in_script p j lane call.Ask ≡ true) (here : last_line j (lane / 2) ≡ Some l)
    (alive : live j l ≡ true) where
  whole : broke j l ≡ false
  unfolding live
  whole = not_true _ (and_parts (not (broke j l)) _ (and_parts (started j l) _ alive).1).0

  has_wrote : (x : Request) → k.IsSentOn j l x → is_pending j x ≡ false
      → is_some (wrote j x.attempt) ≡ true
  has_wrote x on off =
      by_bool (answered j x.attempt)
      (λ b. answered j x.attempt ≡ b → is_some (wrote j x.attempt) ≡ true)
      (λ _ done. asking_written p j lane x.attempt legal asks (record {
        line = l;
        own = la.here_own p j (lane / 2) l legal here;
        carrier = on.carrier;
        consumed = done;
      }))
      (λ _ un. by_bool (says_unwritten (wrote j x.attempt))
      (λ b. says_unwritten (wrote j x.attempt) ≡ b → is_some (wrote j x.attempt) ≡ true)
      (λ _ fault. unwritten (wrote j x.attempt) fault)
      (λ _ fine. absurd (clash (is_pending j x) (q.is_open j x (record {
        unanswered = un;
        written = fine;
        running = subst (λ i. has_ended j i ≡ false) (sym on.line) (q.live_running j l alive);
      })) off)) refl) refl
    where
      unwritten : (o : Option Written) → says_unwritten o ≡ true → is_some o ≡ true
      unwritten (Some y) h = refl
      unwritten None h = absurd (cc)

  closed_here : (x : Request) → k.IsSentOn j l x → is_pending j x ≡ false → IsClosed j x
  closed_here x on off =
      let y = some_is (wrote j x.attempt) (has_wrote x on off) in
      record {
        closed = off;
        how = y.0;
        written = y.1;
        fed = ap says_feed_fault (sym y.1) ∙ re.unfed p j l x.attempt legal whole on.carrier;
      }

  pub emptied_here : pending j l ≡ [] → bound p j l ≡ None → IsEmptied p j l
  unfolding pending
  emptied_here empty free =
      let own = la.here_own p j (lane / 2) l legal here in
      record {
        lane = own.owner.0;
        attempt = own.owner.1;
        launched = own.owner.2;
        free = free;
        requests = k.all_map (λ x. k.IsSentOn j l x × (is_pending j x ≡ false)) (IsClosed j)
            (λ x h. closed_here x h.0 h.1) (sends j l)
            (k.all_both (k.IsSentOn j l) (λ x. is_pending j x ≡ false) (sends j l)
            (k.sends_on j l (begin_in_order p j legal))
            (none_pass (is_pending j) (sends j l) empty));
      }

no_reason : (l m : ℕ) (y : Cause) → evicts_line l (reply.Kill m (why_of y)) ≡ true → ⊥
no_reason l m cause.Breach h = cc
no_reason l m cause.Feed h = cc
no_reason l m _ h = cc

evicted_here : (p : Plan) (j : List Entry) (l lane : ℕ) (d : Call) (x : Reply) → Lawful p j
    → in_script p j lane d ≡ true → u.Ruled p j lane d x → evicts_line l x ≡ true
    → IsEmptied p j l
evicted_here p j l lane d x legal asks (u.Evicts m here alive empty free none) h =
    subst (IsEmptied p j) (eqb-true m l h)
    (emptied_here p j lane m legal asks here alive empty free)
evicted_here p j l lane d x legal asks (u.KillsBroken m y here run broken over) h =
    absurd (no_reason l m y h)
evicted_here p j l lane d x legal asks (u.Notes e n) h = absurd (cc)
evicted_here p j l lane d x legal asks _ h = absurd (cc)

evict_sends_none : (l : ℕ) (x : Reply) → evicts_line l x ≡ true → sent_on l x ≡ None
evict_sends_none l (reply.Kill m why.Evicted) h = refl
evict_sends_none l _ h = absurd (cc)

-- ---- and stays so, since nothing is sent to it

evict_order : (l : ℕ) (x : Reply) → evicts_line l x ≡ true → orders_kill l x ≡ true
evict_order l (reply.Kill k why.Evicted) h = h
evict_order l _ h = absurd (cc)

evicted_ordered : (j : List Entry) (l : ℕ) → was_evicted j l ≡ true → kill_ordered j l ≡ true
unfolding was_evicted kill_ordered
evicted_ordered j l h =
    c.ever_map (λ e. evicts_line l e.reply) (λ e. orders_kill l e.reply)
    (λ e y. evict_order l e.reply y) j h

pub unsent : (p : Plan) (e : Entry) (j : List Entry) (x : Request) → Lawful p (e ∷ j)
    → send_in e.reply ≡ Some x → was_evicted j x.line ≡ false
unsent p e j x legal h = false_by (was_evicted j x.line)
    (λ y. clash _ (evicted_ordered j x.line y) (la.sends_unordered p e j x legal h))

pub emptied : (p : Plan) (j : List Entry) (l : ℕ) → Lawful p j → was_evicted j l ≡ true
    → IsEmptied p j l
unfolding was_evicted
emptied p [] l legal h = absurd (cc)
emptied p (e ∷ j) l legal h = by (or_cases (evicts_line l e.reply) (was_evicted j l) h)
    (λ y. emptied p j l legal.0 y)
  where
    quiet : was_evicted j l ≡ true → (o : Option Request) → sent_on l e.reply ≡ o → o ≡ None
    quiet old None is = refl
    quiet old (Some x) is =
        let s = q.sent_on_is l e.reply x is in
        absurd (clash (was_evicted j l) old (subst (λ i. was_evicted j i ≡ false) s.1
        (unsent p e j x legal s.0)))

    by : (evicts_line l e.reply ≡ true) ⊎ (was_evicted j l ≡ true)
        → (was_evicted j l ≡ true → IsEmptied p j l) → IsEmptied p (e ∷ j) l
    by (inl now) ih = emptied_stays p e j l legal (evict_sends_none l e.reply now)
        (evicted_here p j l e.lane e.call e.reply legal.0 legal.1.scripted
        (v.entry_ruled p e j legal) now)
    by (inr old) ih = emptied_stays p e j l legal (quiet old (sent_on l e.reply) refl) (ih old)

-- ---- so no attempt ends with it

pub empty : (p : Plan) (j : List Entry) (l : ℕ) → Lawful p j → was_evicted j l ≡ true
    → (pending j l ≡ []) × (bound p j l ≡ None)
unfolding pending
empty p j l legal h =
    let is = emptied p j l legal h in (
      all_fail (is_pending j) (sends j l)
          (k.all_map (IsClosed j) (λ x. is_pending j x ≡ false) (λ x y. y.closed) (sends j l)
          is.requests),
      is.free,
    )

none_stands : (p : Plan) (j : List Entry) (l : ℕ) (t : Attempt) → Lawful p j
    → was_evicted j l ≡ true → stands_on p j l t ≡ false
none_stands p j l t legal h =
    let is = emptied p j l legal h in
    let fed : find (λ x. says_feed_fault (wrote j x.attempt)) (sends j l) ≡ None =
    none_found (λ x. says_feed_fault (wrote j x.attempt)) (sends j l)
    (k.all_map (IsClosed j) (λ x. says_feed_fault (wrote j x.attempt) ≡ false)
    (λ x y. ap says_feed_fault y.written ∙ y.fed) (sends j l) is.requests) in
    rw ((empty p j l legal h).0, fed, is.free) refl

pub ends_none : (p : Plan) (e : Entry) (j : List Entry) (l : ℕ) (how : HowEnded)
    → Lawful p (e ∷ j) → e.call ≡ call.Ended l how → was_evicted j l ≡ true
    → (t : Attempt) → ended (e ∷ j) t ≡ ended j t
ends_none p e j l how legal is h t =
    le.ends_standing p e j l how legal is t
    ∙ rw (none_stands p j l t legal.0 h) (or_none (ended j t))
  where
    or_none : (b : Bool) → (b || false) ≡ b
    or_none true = refl
    or_none false = refl
