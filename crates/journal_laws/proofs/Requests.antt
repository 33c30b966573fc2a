-- The requests of a line: their numbers, and which of them can be pending.
use Rattle.std.proofs.Common.{◌≡◌, ℕ, ◌+◌, ◌-◌, ◌/◌, ◌<◌, ◌==◌, nat_lt, Bool, true, false, ◌&&◌, ◌||◌, not, cond, List, [], ◌∷◌, length, Option, Some, None, inl, inr, refl, sym, ap, subst, ◌∙◌, ℤ, pos, arith}
use Rattle.std.specs.List.{list_any, list_all, filter, find}
use Rattle.std.specs.Ordering.{int_eq}
use Rattle.std.proofs.lemmas.Bool.{eqb-true, eq-eqb, ltb-true, ltb-false, and_parts, and_from, or_left, or_right, not_from_false}
use Rattle.std.proofs.lemmas.Bool.Decides.{Decides-int_eq}
use Rattle.run_plan.specs.declared.plan.Kind.{Kind}
use Rattle.run_plan.specs.declared.plan.Kind.TheVariants as kind
use Rattle.run_plan.specs.declared.plan.Plan.{Plan}
use Rattle.exec_journal.specs.declared.attempt.Attempt.{Attempt}
use Rattle.exec_journal.specs.Entry.{Entry}
use Rattle.exec_journal.specs.declared.call.Answer.{Answer}
use Rattle.exec_journal.specs.declared.call.Call.{Call}
use Rattle.exec_journal.specs.declared.call.Call.TheVariants as call
use Rattle.exec_journal.specs.declared.reply.Reply.{Reply}
use Rattle.exec_journal.specs.declared.reply.Reply.TheVariants as reply
use Rattle.list_lemmas.specs.Options.{or_else}
use Rattle.exec_journal.specs.Entries.{Request, attempt_of, same_attempt, launch_in, send_in}
use Rattle.exec_journal.specs.Words.{last_line, line_count, launch_of, launch_at, launch_on, sends, sent_on, pending, is_pending, was_sent, answered, wrote, says_done, says_unwritten, has_ended, live, broke, started}
use Rattle.exec_journal.specs.Attempts.{ended}
use Rattle.exec_journal.specs.Settled.{bound, earliest, free_places, one_if}
use Rattle.run_plan.specs.Groups.{is_single, capacity}
use Rattle.exec_journal.specs.Seated.{group_for, kind_for, group_on, line_kind}
use Rattle.exec_journal.specs.Rules as r
use Rattle.exec_journal.specs.Paired as pr
use Rattle.exec_journal.specs.Paired.{Paired}
use Rattle.exec_journal.specs.Lawful.{Lawful, NextOn, FromBound, FromQueue, NoneBefore}
use Rattle.exec_journal.specs.Facts.{call_line, IsOfBerth, OfBerth}
use Rattle.journal_laws.specs.Invariant.{claimed, IsGoing, NumberedAs, older, EachRequest, LineFacts}
use Rattle.exec_journal.proofs.Histories.{AllOf}
use Rattle.exec_journal.proofs.Reasons as u
use Rattle.exec_journal.proofs.Ruled.{by_bool, not_true}
use Rattle.exec_journal.proofs.Lines.{last_line_own, launch_stays, lines_named}
use Rattle.journal_laws.proofs.Fresh.{fresh}
use Rattle.exec_journal.proofs.Begins.{same_attempt_refl, begin_in_order, bound_is, IsBound}
use Rattle.exec_journal.proofs.Quiet.{ended_stays}
use Rattle.journal_laws.proofs.Carried as k
use Rattle.journal_laws.proofs.Over as v
use Rattle.journal_laws.proofs.Claims as c
use Rattle.journal_laws.proofs.Claims.{clash, false_by}
use Rattle.journal_laws.proofs.Granted as g
use Rattle.journal_laws.proofs.Firm as f

-- ---- a pending request

pub record IsOpen (j : List Entry) (q : Request) : Type 0 where
  pub unanswered : answered j q.attempt ≡ false
  pub written : says_unwritten (wrote j q.attempt) ≡ false
  pub running : has_ended j q.line ≡ false

pub pending_is : (j : List Entry) (q : Request) → is_pending j q ≡ true → IsOpen j q
unfolding is_pending
pending_is j q h =
    let parts = and_parts (not (answered j q.attempt)) _ h in let more = and_parts (not (says_unwritten (wrote j q.attempt))) _ parts.1 in
    record { unanswered = not_true _ parts.0; written = not_true _ more.0; running = not_true _ more.1 }

pub is_open : (j : List Entry) (q : Request) → IsOpen j q → is_pending j q ≡ true
unfolding is_pending
is_open j q h = rw (h.unanswered, h.written, h.running) refl

-- its attempt is under way
pub pending_going : (p : Plan) (j : List Entry) (l : ℕ) (q : Request) → Lawful p j → k.IsSentOn j l q → is_pending j q ≡ true → IsGoing j q.attempt
pending_going p j l q legal on h =
    let now = pending_is j q h in
    let unclaimed : claimed j q.attempt ≡ false = false_by _ (λ yes. clash _ (c.gathered_is p j q.attempt legal (c.claimed_gathered p j q.attempt legal yes)).consumed now.unanswered) in
    g.going_is p j q.attempt legal (k.sent_begun j q.attempt on.sent)
    (g.still_going p j q.attempt legal on.sent now.written unclaimed (λ m at. false_by _ (λ lost.
    let both : Some m ≡ Some l = sym at ∙ on.carrier in
    let same : m ≡ l = cc in
    clash (has_ended j q.line) (subst (λ n. has_ended j n ≡ true) (same ∙ sym on.line) (and_parts (has_ended j m) _ lost).0) now.running)))

-- an entry opens no request that was sent before
pub pending_before : (e : Entry) (j : List Entry) (q : Request) → is_pending (e ∷ j) q ≡ true → is_pending j q ≡ true
pending_before e j q h =
    let now = pending_is (e ∷ j) q h in
    is_open j q (record {
      unanswered = false_by _ (λ y. clash _ (c.answered_later e j q.attempt y) now.unanswered);
      written = false_by _ (λ y. clash _ (g.unwritten_stays e j q.attempt y) now.written);
      running = false_by _ (λ y. clash _ (v.ended_line_stays e j q.line y) now.running);
    })

pub closed_stays : (e : Entry) (j : List Entry) (q : Request) → is_pending j q ≡ false → is_pending (e ∷ j) q ≡ false
closed_stays e j q h = false_by _ (λ y. clash _ (pending_before e j q y) h)

-- ---- lists of requests

each_map : (P Q : Request → Type 0) → ((q : Request) → P q → Q q) → (qs : List Request) → EachRequest P qs → EachRequest Q qs
each_map P Q h [] all = tt
each_map P Q h (q ∷ qs) all = (h q all.0, each_map P Q h qs all.1)

each_older : (P : Request → Type 0) (qs : List Request) → EachRequest P qs → EachRequest P (older qs)
each_older P [] all = tt
each_older P (q ∷ qs) all = all.1

none_pass : (test : Request → Bool) (qs : List Request) → length (filter test qs) ≡ 0 → EachRequest (λ q. test q ≡ false) qs
none_pass test [] h = tt
none_pass test (q ∷ qs) h =
    by_bool (test q) (λ b. test q ≡ b → length (cond b (q ∷ filter test qs) (filter test qs)) ≡ 0 → (test q ≡ false) × EachRequest (λ x. test x ≡ false) qs)
    (λ _ is m. absurd (omega arith)) (λ _ is m. (is, none_pass test qs m)) refl h

-- ---- what is sent on a line

-- a Send to the line l: it is the lane's own last line, live, and gets the bound branch if there is one
pub record SendsTo (p : Plan) (j : List Entry) (lane l : ℕ) (q : Request) : Type 0 where
  pub here : last_line j (lane / 2) ≡ Some l
  pub up : live j l ≡ true
  pub next : NextOn p j l q.attempt
  pub none : NoneBefore p j (lane / 2)
  pub number : q.number ≡ r.number_of j (line_kind p j l) l
  pub line : q.line ≡ l

pub sent_on_is : (l : ℕ) (x : Reply) (q : Request) → sent_on l x ≡ Some q → (send_in x ≡ Some q) × (q.line ≡ l)
sent_on_is l (reply.Send m n a b t) q h =
    by_bool (m == l) (λ z. (m == l) ≡ z → cond z (Some (record { line = m; number = n; attempt = attempt_of a b t })) None ≡ Some q
    → (Some (record { line = m; number = n; attempt = attempt_of a b t }) ≡ Some q) × (q.line ≡ l))
    (λ _ same y. let e : record { line = m; number = n; attempt = attempt_of a b t } ≡ q = cc in (y, subst (λ (w : Request). w.line ≡ l) e (eqb-true m l same)))
    (λ _ _ y. absurd (cc)) refl h
sent_on_is l _ q h = absurd (cc)

pub sends_to : (p : Plan) (j : List Entry) (lane l : ℕ) (d : Call) (x : Reply) (q : Request) → u.Ruled p j lane d x → send_in x ≡ Some q → q.line ≡ l → SendsTo p j lane l q
sends_to p j lane l d x q (u.Sends m t here alive next none) h at =
    let e : record { line = m; number = r.number_of j (line_kind p j m) m; attempt = attempt_of t.action t.branch t.number } ≡ q = cc in
    let m_is : m ≡ l = subst (λ (y : Request). y.line ≡ l) (sym e) at in
    subst (SendsTo p j lane l) e (record {
      here = subst (λ n. last_line j (lane / 2) ≡ Some n) m_is here;
      up = subst (λ n. live j n ≡ true) m_is alive;
      next = subst (λ n. NextOn p j n t) m_is next;
      none = none;
      number = ap (λ n. r.number_of j (line_kind p j n) n) m_is;
      line = m_is;
    })
sends_to p j lane l d x q (u.KillsBroken m y here run broken over) h at = absurd (cc)
sends_to p j lane l d x q _ h at = absurd (cc)

pub sends_grow : (e : Entry) (j : List Entry) (l : ℕ) (q : Request) → sent_on l e.reply ≡ Some q → sends (e ∷ j) l ≡ q ∷ sends j l
unfolding sends
sends_grow e j l q h = rw h refl

pub sends_same : (e : Entry) (j : List Entry) (l : ℕ) → sent_on l e.reply ≡ None → sends (e ∷ j) l ≡ sends j l
unfolding sends
sends_same e j l h = rw h refl

-- the line's berth is the lane's
pub same_berth : (p : Plan) (j : List Entry) (l lane w : ℕ) (m : ℕ) (t : Attempt) → Lawful p j → last_line j w ≡ Some l → launch_of j l ≡ Some (m, t) → m / 2 ≡ w
same_berth p j l lane w m t legal here at =
    let own : IsOfBerth j l w = subst (λ (o : Option ℕ). OfBerth j o w) here (last_line_own w j (lines_named p j legal)) in
    let both : Some (own.owner.0, own.owner.1) ≡ Some (m, t) = sym own.owner.2 ∙ at in
    let pair : (own.owner.0, own.owner.1) ≡ (m, t) = cc in
    let n : own.owner.0 ≡ m = ap (λ (x : ℕ × Attempt). x.0) pair in
    subst (λ i. i / 2 ≡ w) n own.owner.3

-- ---- the facts of a line, entry by entry

-- a line that was launched before, or just now
pub data Launches (p : Plan) (e : Entry) (j : List Entry) (l m : ℕ) (t : Attempt) : Type 0 where
  Now : launch_in e.reply ≡ Some (l, t) → e.lane ≡ m → Launches p e j l m t
  Before : launch_of j l ≡ Some (m, t) → Launches p e j l m t

launch_on_is : (l lane : ℕ) (o : Option (ℕ × Attempt)) (y : ℕ × Attempt) → launch_on l lane o ≡ Some y → (o ≡ Some (l, y.1)) × (lane ≡ y.0)
launch_on_is l lane None y h = absurd (cc)
launch_on_is l lane (Some x) y h =
    by_bool (x.0 == l) (λ b. (x.0 == l) ≡ b → cond b (Some (lane, x.1)) None ≡ Some y → (Some x ≡ Some (l, y.1)) × (lane ≡ y.0))
    (λ _ same n. let e : (lane, x.1) ≡ y = cc in
    let a : x.1 ≡ y.1 = ap (λ (z : ℕ × Attempt). z.1) e in let b = eqb-true x.0 l same in
    ((λ i. Some (b i, a i)), ap (λ (z : ℕ × Attempt). z.0) e))
    (λ _ _ n. absurd (cc)) refl h

pub launch_cases : (p : Plan) (e : Entry) (j : List Entry) (l m : ℕ) (t : Attempt) → launch_of (e ∷ j) l ≡ Some (m, t) → Launches p e j l m t
unfolding launch_of
launch_cases p e j l m t h = elim (k.or_some (launch_at l e) (launch_of j l) (m, t) h) [
  | inl here ↦ (let is = launch_on_is l e.lane (launch_in e.reply) (m, t) here in Now is.0 is.1)
  | inr before ↦ Before before
]

-- the bound branch goes first
bound_first : (p : Plan) (j : List Entry) (l : ℕ) (s t : Attempt) → bound p j l ≡ Some s → NextOn p j l t → s ≡ t
bound_first p j l s t h (FromBound is) = let both : Some s ≡ Some t = sym h ∙ is in cc
bound_first p j l s t h (FromQueue none room next) = let both : Some s ≡ None = sym h ∙ none in absurd (cc)

pub launched_below : (p : Plan) (j : List Entry) (l m : ℕ) (t : Attempt) → Lawful p j → launch_of j l ≡ Some (m, t) → l < line_count j
launched_below p j l m t legal at = by_bool (nat_lt l (line_count j)) (λ b. nat_lt l (line_count j) ≡ b → l < line_count j)
    (λ _ below. ltb-true l (line_count j) below)
    (λ _ above. (let none = (fresh p j l legal (ltb-false l (line_count j) above)).launch in let both : None ≡ Some (m, t) = sym none ∙ at in absurd (cc))) refl

-- a line that was launched stays so
pub launch_later : (p : Plan) (e : Entry) (j : List Entry) (l m : ℕ) (t : Attempt) → Lawful p (e ∷ j) → launch_of j l ≡ Some (m, t) → launch_of (e ∷ j) l ≡ Some (m, t)
launch_later p e j l m t legal at = by_bool (nat_lt l (line_count j)) (λ b. nat_lt l (line_count j) ≡ b → launch_of (e ∷ j) l ≡ Some (m, t))
    (λ _ below. launch_stays e j l (lines_named p (e ∷ j) legal).1.numbered (ltb-true l (line_count j) below) ∙ at)
    (λ _ above. (let none = (fresh p j l legal.0 (ltb-false l (line_count j) above)).launch in let both : None ≡ Some (m, t) = sym none ∙ at in absurd (cc))) refl

-- the group of a line is its attempt's
pub group_is : (p : Plan) (j : List Entry) (l m : ℕ) (t : Attempt) → launch_of j l ≡ Some (m, t) → group_on p j l ≡ group_for p t
unfolding group_on
group_is p j l m t h = rw h refl

pub kind_is : (p : Plan) (j : List Entry) (l m : ℕ) (t : Attempt) → launch_of j l ≡ Some (m, t) → line_kind p j l ≡ kind_for p t
kind_is p j l m t h = rw (group_is p j l m t h) refl

-- what is bound was bound before, where the line was there
pub bound_before : (p : Plan) (e : Entry) (j : List Entry) (l m : ℕ) (t : Attempt) → Lawful p (e ∷ j) → launch_of j l ≡ Some (m, t) → IsBound p (e ∷ j) l t → bound p j l ≡ Some t
unfolding bound
bound_before p e j l m t legal at b =
    let wish = f.wanted_before p e j t.action t.branch legal b.wish in
    let sent = c.unsent_before e j t b.unsent in
    let going : ended j t ≡ false = false_by _ (λ y. clash _ (ended_stays e j t y) b.going) in
    rw (at, wish, sent, going) refl

pub sent_now : (e : Entry) (j : List Entry) (q : Request) → send_in e.reply ≡ Some q → was_sent (e ∷ j) q.attempt ≡ true
unfolding was_sent
sent_now e j q h = rw (h, same_attempt_refl q.attempt) refl

launch_sends_none_on : (l : ℕ) (x : Reply) (y : ℕ × Attempt) → launch_in x ≡ Some y → sent_on l x ≡ None
launch_sends_none_on l (reply.Launch m a b t) y h = refl
launch_sends_none_on l _ y h = absurd (cc)

pub new_line_unsent : (p : Plan) (e : Entry) (j : List Entry) (l : ℕ) (t : Attempt) → Lawful p (e ∷ j) → launch_in e.reply ≡ Some (l, t) → sends (e ∷ j) l ≡ []
new_line_unsent p e j l t legal h =
    let line = c.next_line p e j (l, t) legal h in
    sends_same e j l (launch_sends_none_on l e.reply (l, t) h) ∙ (fresh p j l legal.0 (let n = line in omega arith)).send

-- while a branch is bound to a line, nothing was sent there
pub bound_unsent : (p : Plan) (j : List Entry) (l : ℕ) (t : Attempt) → Lawful p j → bound p j l ≡ Some t → sends j l ≡ []
unfolding sends
bound_unsent p [] l t legal h = refl
bound_unsent p (e ∷ j) l t legal h =
    let b = bound_is p (e ∷ j) l t h in
    by b (launch_cases p e j l b.lane t b.launched) (λ y. bound_unsent p j l t legal.0 y)
  where
    quiet : (o : Option Request) → sent_on l e.reply ≡ o → IsBound p (e ∷ j) l t → bound p j l ≡ Some t → sends j l ≡ [] → sends (e ∷ j) l ≡ []
    quiet None is b was empty = sends_same e j l is ∙ empty
    quiet (Some q) is b was empty =
        let s = sent_on_is l e.reply q is in
        let to = sends_to p j e.lane l e.call e.reply q (v.entry_ruled p e j legal) s.0 s.1 in
        let same = bound_first p j l t q.attempt was to.next in
        absurd (clash (was_sent (e ∷ j) t) (subst (λ (x : Attempt). was_sent (e ∷ j) x ≡ true) (sym same) (sent_now e j q s.0)) b.unsent)

    by : (b : IsBound p (e ∷ j) l t) → Launches p e j l b.lane t → (bound p j l ≡ Some t → sends j l ≡ []) → sends (e ∷ j) l ≡ []
    by b (Now is lane) ih = new_line_unsent p e j l t legal is
    by b (Before at) ih = (let was = bound_before p e j l b.lane t legal at b in quiet (sent_on l e.reply) refl b was (ih was))

-- ---- numbers

pub numbered : (p : Plan) (j : List Entry) (l m : ℕ) (t : Attempt) → Lawful p j → launch_of j l ≡ Some (m, t) → NumberedAs (is_single (kind_for p t)) (sends j l)
unfolding launch_of
numbered p [] l m t legal h = absurd (cc)
numbered p (e ∷ j) l m t legal h = by (launch_cases p e j l m t h) (λ y. numbered p j l m t legal.0 y)
  where
    more : (o : Option Request) → sent_on l e.reply ≡ o → launch_of j l ≡ Some (m, t) → NumberedAs (is_single (kind_for p t)) (sends j l) → NumberedAs (is_single (kind_for p t)) (sends (e ∷ j) l)
    more None is at old = subst (NumberedAs (is_single (kind_for p t))) (sym (sends_same e j l is)) old
    more (Some q) is at old =
        let s = sent_on_is l e.reply q is in
        let to = sends_to p j e.lane l e.call e.reply q (v.entry_ruled p e j legal) s.0 s.1 in
        let n : q.number ≡ r.number_of j (kind_for p t) l = subst (λ (i : Kind). q.number ≡ r.number_of j i l) (kind_is p j l m t at) to.number in
        subst (NumberedAs (is_single (kind_for p t))) (sym (sends_grow e j l q is)) (n, old)

    by : Launches p e j l m t → (launch_of j l ≡ Some (m, t) → NumberedAs (is_single (kind_for p t)) (sends j l)) → NumberedAs (is_single (kind_for p t)) (sends (e ∷ j) l)
    by (Now is lane) ih = subst (NumberedAs (is_single (kind_for p t))) (sym (new_line_unsent p e j l t legal is)) tt
    by (Before at) ih = more (sent_on l e.reply) refl at (ih at)

-- ---- on a Single line only the newest request can be pending

single_capacity : (k : Kind) → is_single k ≡ true → capacity k ≡ 1
single_capacity kind.Single h = refl
single_capacity kind.Multi h = absurd (cc)
single_capacity kind.Boxed h = absurd (cc)
single_capacity kind.Remote h = absurd (cc)

room_is : (p : Plan) (j : List Entry) (k : Kind) (l : ℕ) → is_single k ≡ true → nat_lt 0 (free_places p j k l) ≡ true → length (pending j l) ≡ 0
unfolding free_places
room_is p j k l one h =
    let cap = single_capacity k one in
    let lt : 0 < capacity k - (length (pending j l) + one_if (bound p j l)) = ltb-true 0 _ h in
    omega arith

-- before a Send on a Single line, none of its requests is pending
pub none_pending : (p : Plan) (j : List Entry) (lane l : ℕ) (q : Request) → Lawful p j → is_single (line_kind p j l) ≡ true → SendsTo p j lane l q → EachRequest (λ x. is_pending j x ≡ false) (sends j l)
unfolding pending
none_pending p j lane l q legal one to = by to.next
  where
    by : NextOn p j l q.attempt → EachRequest (λ x. is_pending j x ≡ false) (sends j l)
    by (FromBound is) = subst (EachRequest (λ x. is_pending j x ≡ false)) (sym (bound_unsent p j l q.attempt legal is)) tt
    by (FromQueue is room next) = none_pass (is_pending j) (sends j l) (room_is p j (line_kind p j l) l one room)

pub older_closed : (p : Plan) (j : List Entry) (l m : ℕ) (t : Attempt) → Lawful p j → launch_of j l ≡ Some (m, t) → is_single (kind_for p t) ≡ true → EachRequest (λ q. is_pending j q ≡ false) (older (sends j l))
unfolding launch_of
older_closed p [] l m t legal h one = absurd (cc)
older_closed p (e ∷ j) l m t legal h one = by (launch_cases p e j l m t h) (λ y. older_closed p j l m t legal.0 y one)
  where
    Closed : List Request → Type 0
    Closed qs = EachRequest (λ q. is_pending (e ∷ j) q ≡ false) (older qs)

    still : (qs : List Request) → EachRequest (λ q. is_pending j q ≡ false) qs → EachRequest (λ q. is_pending (e ∷ j) q ≡ false) qs
    still qs all = each_map (λ q. is_pending j q ≡ false) (λ q. is_pending (e ∷ j) q ≡ false) (λ q y. closed_stays e j q y) qs all

    more : (o : Option Request) → sent_on l e.reply ≡ o → launch_of j l ≡ Some (m, t) → EachRequest (λ q. is_pending j q ≡ false) (older (sends j l)) → EachRequest (λ q. is_pending (e ∷ j) q ≡ false) (older (sends (e ∷ j) l))
    more None is at old = subst (λ qs. EachRequest (λ q. is_pending (e ∷ j) q ≡ false) (older qs)) (sym (sends_same e j l is)) (still (older (sends j l)) old)
    more (Some q) is at old =
        let s = sent_on_is l e.reply q is in
        let to = sends_to p j e.lane l e.call e.reply q (v.entry_ruled p e j legal) s.0 s.1 in
        let single : is_single (line_kind p j l) ≡ true = subst (λ (i : Kind). is_single i ≡ true) (sym (kind_is p j l m t at)) one in
        subst (λ qs. EachRequest (λ x. is_pending (e ∷ j) x ≡ false) (older qs)) (sym (sends_grow e j l q is)) (still (sends j l) (none_pending p j e.lane l q legal.0 single to))

    by : Launches p e j l m t → (launch_of j l ≡ Some (m, t) → EachRequest (λ q. is_pending j q ≡ false) (older (sends j l))) → EachRequest (λ q. is_pending (e ∷ j) q ≡ false) (older (sends (e ∷ j) l))
    by (Now is lane) ih = subst (λ qs. EachRequest (λ x. is_pending (e ∷ j) x ≡ false) (older qs)) (sym (new_line_unsent p e j l t legal is)) tt
    by (Before at) ih = more (sent_on l e.reply) refl at (ih at)

pub line_facts : (p : Plan) (j : List Entry) (l w : ℕ) → Lawful p j → IsOfBerth j l w → LineFacts p j l
line_facts p j l w legal own =
    let at = own.owner.2 in
    let kind = kind_is p j l own.owner.0 own.owner.1 at in
    record {
      numbers = subst (λ (i : Kind). NumberedAs (is_single i) (sends j l)) (sym kind) (numbered p j l own.owner.0 own.owner.1 legal at);
      unsent = λ t h. bound_unsent p j l t legal h;
      closed = λ one. older_closed p j l own.owner.0 own.owner.1 legal at (subst (λ (i : Kind). is_single i ≡ true) kind one);
    }

-- ---- Paired

any_head : (test hit : Request → Bool) (qs : List Request) (q : Request) → r.head (filter test qs) ≡ Some q → hit q ≡ true → list_any hit qs ≡ true
any_head test hit [] q h y = absurd (cc)
any_head test hit (x ∷ qs) q h y =
    by_bool (test x) (λ b. r.head (cond b (x ∷ filter test qs) (filter test qs)) ≡ Some q → (hit x || list_any hit qs) ≡ true)
    (λ _ m. let e : x ≡ q = cc in or_left (hit x) _ (subst (λ z. hit z ≡ true) (sym e) y)) (λ _ m. or_right (hit x) _ (any_head test hit qs q m y)) h

any_find : (test hit : Request → Bool) (qs : List Request) (q : Request) → find test qs ≡ Some q → hit q ≡ true → list_any hit qs ≡ true
any_find test hit [] q h y = absurd (cc)
any_find test hit (x ∷ qs) q h y =
    by_bool (test x) (λ b. cond b (Some x) (find test qs) ≡ Some q → (hit x || list_any hit qs) ≡ true)
    (λ _ m. let e : x ≡ q = cc in or_left (hit x) _ (subst (λ z. hit z ≡ true) (sym e) y)) (λ _ m. or_right (hit x) _ (any_find test hit qs q m y)) h

pub find_passes : (test : Request → Bool) (qs : List Request) (q : Request) → find test qs ≡ Some q → test q ≡ true
find_passes test [] q h = absurd (cc)
find_passes test (x ∷ qs) q h =
    by_bool (test x) (λ b. test x ≡ b → cond b (Some x) (find test qs) ≡ Some q → test q ≡ true)
    (λ _ is m. let e : x ≡ q = cc in subst (λ z. test z ≡ true) e is) (λ _ _ m. find_passes test qs q m) refl h

-- where only the first passes, the first that passes is the first
pub first_head : (test : Request → Bool) (qs : List Request) (q : Request) → EachRequest (λ x. test x ≡ false) (older qs) → r.head (filter test qs) ≡ Some q → r.head qs ≡ Some q
first_head test [] q all h = absurd (cc)
first_head test (x ∷ qs) q all h =
    by_bool (test x) (λ b. r.head (cond b (x ∷ filter test qs) (filter test qs)) ≡ Some q → Some x ≡ Some q) (λ _ m. m) (λ _ m. absurd (no_head qs all m)) h
  where
    no_head : (ys : List Request) → EachRequest (λ x. test x ≡ false) ys → r.head (filter test ys) ≡ Some q → ⊥
    no_head [] all m = cc
    no_head (y ∷ ys) all m = no_head ys all.1 (subst (λ b. r.head (cond b (y ∷ filter test ys) (filter test ys)) ≡ Some q) all.0 m)

pub all_zero : (qs : List Request) → NumberedAs true qs → AllOf (λ q. q.number ≡ pos 0) qs
all_zero [] all = tt
all_zero (q ∷ qs) all = (all.0, all_zero qs all.1)

-- no request of the list has this number or a higher one
pub fewer : (qs : List Request) (n : ℕ) (z : ℤ) → NumberedAs false qs → length qs < n → z ≡ pos n → length (filter (λ q. int_eq q.number z) qs) ≡ 0
fewer [] n z all lt is = refl
fewer (q ∷ qs) n z all lt is =
    by_bool (int_eq q.number z) (λ b. int_eq q.number z ≡ b → length (cond b (q ∷ filter (λ x. int_eq x.number z) qs) (filter (λ x. int_eq x.number z) qs)) ≡ 0)
    (λ _ same. absurd (let e = (Decides-int_eq q.number z).0 same in let k : pos (length qs + 1) ≡ pos n = sym all.0 ∙ e ∙ is in let m : length qs + 1 ≡ n = cc in omega arith))
    (λ _ _. fewer qs n z all.1 (omega arith) is) refl

only_one : (qs : List Request) (z : ℤ) (q : Request) → NumberedAs false qs → find (λ x. int_eq x.number z) qs ≡ Some q → length (filter (λ x. int_eq x.number z) qs) ≡ 1
only_one [] z q all h = absurd (cc)
only_one (y ∷ qs) z q all h =
    by_bool (int_eq y.number z) (λ b. int_eq y.number z ≡ b → cond b (Some y) (find (λ x. int_eq x.number z) qs) ≡ Some q → length (cond b (y ∷ filter (λ x. int_eq x.number z) qs) (filter (λ x. int_eq x.number z) qs)) ≡ 1)
    (λ _ same _. let e = (Decides-int_eq y.number z).0 same in
    let none = fewer qs (length qs + 1) z all.1 (omega arith) (sym e ∙ all.0) in omega (arith, none))
    (λ _ _ m. only_one qs z q all.1 m) refl h

-- the request of a consumed answer
module _ (p : Plan) (j : List Entry) (lane l : ℕ) (x : Answer) (q : Request) (legal : Lawful p j) (own : IsOfBerth j l (lane / 2)) (asked : u.IsRequest p j l x q) where
  facts : LineFacts p j l
  facts = line_facts p j l (lane / 2) legal own

  pub number_same : (b : Bool) → is_single (line_kind p j l) ≡ b → int_eq q.number x.number ≡ true
  unfolding pending
  number_same true one =
      let zero_asked = (Decides-int_eq x.number (pos 0)).0 (asked.single one).0 in
      let zero_sent = v.of_request p j l x q (λ y. y.number ≡ pos 0) asked (all_zero (sends j l) (subst (λ b. NumberedAs b (sends j l)) one facts.numbers)) in
      (Decides-int_eq q.number x.number).1 (zero_sent ∙ sym zero_asked)
  number_same false many = find_passes (λ y. int_eq y.number x.number) (sends j l) q (asked.multi many)

  was_asked_so : (b : Bool) → is_single (line_kind p j l) ≡ b → pr.was_asked j l x.number q.attempt ≡ true
  unfolding pending
  was_asked_so true one =
      any_head (is_pending j) (λ y. same_attempt y.attempt q.attempt && int_eq y.number x.number) (sends j l) q (asked.single one).1
      (and_from _ _ (same_attempt_refl q.attempt) (number_same true one))
  was_asked_so false many =
      any_find (λ y. int_eq y.number x.number) (λ y. same_attempt y.attempt q.attempt && int_eq y.number x.number) (sends j l) q (asked.multi many)
      (and_from _ _ (same_attempt_refl q.attempt) (number_same false many))

  own_send : (b : Bool) → is_single (line_kind p j l) ≡ b → (cond b (pr.is_last_send j l q.attempt) (pr.is_only_send j l x.number)) ≡ true
  unfolding pending
  own_send true one =
      let h = first_head (is_pending j) (sends j l) q (facts.closed one) (asked.single one).1 in
      rw h (same_attempt_refl q.attempt)
  own_send false many =
      let n = only_one (sends j l) x.number q (subst (λ b. NumberedAs b (sends j l)) many facts.numbers) (asked.multi many) in
      eq-eqb _ 1 n

  pub requested : pr.has_request (is_single (line_kind p j l)) j l x.number q.attempt ≡ true
  requested =
      and_from _ _ (was_asked_so (is_single (line_kind p j l)) refl)
      (and_from _ _ (not_from_false _ (v.pending_unanswered j q asked.is_open)) (own_send (is_single (line_kind p j l)) refl))

-- each request of a live line that isn't pending was answered, where its Wrote says Done
pub live_running : (j : List Entry) (l : ℕ) → live j l ≡ true → has_ended j l ≡ false
unfolding live
live_running j l h = v.unended j l (not_true _ (and_parts (not (broke j l)) _ (and_parts (started j l) _ h).1).0)

answered_by : (d a w e : Bool) → (d ≡ true → w ≡ false) → e ≡ false → (not a && (not w && not e)) ≡ false → (not d || a) ≡ true
answered_by false a w e f g h = refl
answered_by true true w e f g h = refl
answered_by true false w e f g h = absurd (let k : (not w && not e) ≡ true = rw (f refl, g) refl in clash _ k h)

one_answered : (j : List Entry) (l : ℕ) (q : Request) → has_ended j l ≡ false → q.line ≡ l → is_pending j q ≡ false → (not (says_done (wrote j q.attempt)) || answered j q.attempt) ≡ true
unfolding is_pending
one_answered j l q run at h =
    answered_by (says_done (wrote j q.attempt)) (answered j q.attempt) (says_unwritten (wrote j q.attempt)) (has_ended j q.line)
    (λ done. g.done_written (wrote j q.attempt) done) (subst (λ n. has_ended j n ≡ false) (sym at) run) h

each_answered : (j : List Entry) (l : ℕ) (qs : List Request) → has_ended j l ≡ false → AllOf (k.IsSentOn j l) qs → EachRequest (λ q. is_pending j q ≡ false) qs
    → list_all (λ q. not (says_done (wrote j q.attempt)) || answered j q.attempt) qs ≡ true
each_answered j l [] run on closed = refl
each_answered j l (q ∷ qs) run on closed = and_from _ _ (one_answered j l q run on.0.line closed.0) (each_answered j l qs run on.1 closed.1)

-- the next number of a line is new there
none_long : (test : Request → Bool) (xs : List Request) → length (filter test xs) ≡ 0 → list_any test xs ≡ false
none_long test [] h = refl
none_long test (x ∷ xs) h =
    by_bool (test x) (λ b. length (cond b (x ∷ filter test xs) (filter test xs)) ≡ 0 → (b || list_any test xs) ≡ false) (λ _ m. absurd (omega arith)) (λ _ m. none_long test xs m) h

pub new_number : (j : List Entry) (l : ℕ) (n : ℤ) → NumberedAs false (sends j l) → n ≡ pos (length (sends j l) + 1) → pr.is_new_number j l n ≡ true
new_number j l n numbers is = rw (none_long (λ x. int_eq x.number n) (sends j l) (fewer (sends j l) (length (sends j l) + 1) n numbers (omega arith) is)) refl

next_is_new : (p : Plan) (j : List Entry) (lane l : ℕ) → Lawful p j → last_line j (lane / 2) ≡ Some l → is_single (line_kind p j l) ≡ false → pr.is_new_number j l (r.number_of j (line_kind p j l) l) ≡ true
next_is_new p j lane l legal here many =
    let own : IsOfBerth j l (lane / 2) = subst (λ (o : Option ℕ). OfBerth j o (lane / 2)) here (last_line_own (lane / 2) j (lines_named p j legal)) in
    let facts = line_facts p j l (lane / 2) legal own in
    new_number j l (r.number_of j (line_kind p j l) l) (subst (λ b. NumberedAs b (sends j l)) many facts.numbers) (ap (λ b. cond b (pos 0) (pos (length (sends j l) + 1))) many)

noted_pairs : (p : Plan) (j : List Entry) (lane : ℕ) (d : Call) → pr.pair_at p j lane d reply.Noted ≡ true
noted_pairs p j lane (call.Answer l x) = refl
noted_pairs p j lane _ = refl

attempt_eta : (q : Request) → attempt_of q.attempt.action q.attempt.branch q.attempt.number ≡ q.attempt
attempt_eta q = refl

pair_of : (p : Plan) (j : List Entry) (lane : ℕ) (d : Call) (x : Reply) → Lawful p j → (OfBerth j (call_line d) (lane / 2)) → u.Ruled p j lane d x → pr.pair_at p j lane d x ≡ true
pair_of p j lane d x legal own (u.IsLate l y q asked won) = requested p j lane l y q legal own asked
pair_of p j lane d x legal own (u.IsMatched l y q asked free) = requested p j lane l y q legal own asked
pair_of p j lane d x legal own (u.Sends l t here alive next none) =
    by_bool (is_single (line_kind p j l)) (λ b. is_single (line_kind p j l) ≡ b → (cond b (pr.all_answered j l) (pr.is_new_number j l (r.number_of j (line_kind p j l) l))) ≡ true)
    (λ _ one. each_answered j l (sends j l) (live_running j l alive) (k.sends_on j l (begin_in_order p j legal))
    (none_pending p j lane l (record { line = l; number = r.number_of j (line_kind p j l) l; attempt = t }) legal one
    (record { here = here; up = alive; next = next; none = none; number = refl; line = refl })))
    (λ _ many. next_is_new p j lane l legal here many) refl
pair_of p j lane d x legal own (u.Notes c n) = noted_pairs p j lane d
pair_of p j lane d x legal own (u.KillsBroken l y here run broken over) = refl
pair_of p j lane d x legal own _ = refl

pub paired : (p : Plan) (j : List Entry) → Lawful p j → Paired p j
paired p [] legal = tt
paired p (e ∷ j) legal = (paired p j legal.0, pair_of p j e.lane e.call e.reply legal.0 (lines_named p (e ∷ j) legal).1.called (v.entry_ruled p e j legal))
