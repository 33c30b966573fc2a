-- The answer that a lane is to gather is the newest matched answer of its branch.
use Rattle.std.proofs.Common.{◌≡◌, ℕ, zero, suc, ◌/◌, ◌≤◌, ◌==◌, Bool, true, false, ◌&&◌, ◌||◌, not, cond, List, [], ◌∷◌, Option, Some, None, is_some, ◌⊎◌, inl, inr, refl, ap, sym, subst, ◌∙◌, arith}
use Rattle.std.specs.Prelude.{slice_get}
use Rattle.std.proofs.lemmas.Bool.{and_parts, eqb-true, or_cases}
use Rattle.run_plan.specs.declared.plan.Branch.{Branch}
use Rattle.run_plan.specs.declared.plan.Plan.{Plan}
use Rattle.exec_journal.specs.declared.attempt.Attempt.{Attempt}
use Rattle.exec_journal.specs.declared.call.Answer.{Answer}
use Rattle.exec_journal.specs.declared.call.Call.{Call}
use Rattle.exec_journal.specs.declared.call.Call.TheVariants as call
use Rattle.exec_journal.specs.declared.call.Written.{Written}
use Rattle.exec_journal.specs.declared.call.Written.TheVariants as write
use Rattle.exec_journal.specs.Entry.{Entry}
use Rattle.exec_journal.specs.declared.reply.Reply.{Reply}
use Rattle.exec_journal.specs.declared.reply.Reply.TheVariants as reply
use Rattle.exec_journal.specs.Entries.{Request, attempt_of, consumed_in, gather_in, gather_of_entry, is_branch_of, is_for, matched_in, same_attempt, same_branch}
use Rattle.exec_journal.specs.Lawful.{Lawful}
use Rattle.exec_journal.specs.Rules.{gathered}
use Rattle.exec_journal.specs.Words.{answered, is_pending, last_work, match_at, match_of, says_done, says_feed_fault, sends, wrote}
use Rattle.exec_journal.proofs.Begins.{attempts_in_order, begin_in_order, same_attempt_eq, same_attempt_refl, same_branch_eq}
use Rattle.exec_journal.proofs.Histories.{AllOf, AtSome, some_map}
use Rattle.exec_journal.proofs.Reasons as u
use Rattle.exec_journal.proofs.Ruled.{by_bool, gathers_from, GatherFor, For}
use Rattle.list_lemmas.specs.Options.{or_else, unless_before}
use Rattle.journal_laws.specs.Invariant.{IsGoing}
use Rattle.journal_laws.proofs.Carried as k
use Rattle.journal_laws.proofs.Claims as c
use Rattle.journal_laws.proofs.Claims.{clash}
use Rattle.journal_laws.proofs.Granted as gr
use Rattle.journal_laws.proofs.Known as kn
use Rattle.journal_laws.proofs.Owed.{is_gather}
use Rattle.journal_laws.proofs.Over as v
use Rattle.journal_laws.proofs.Places as pl
use Rattle.journal_laws.proofs.Requests as rq
use Rattle.core_tables.specs.Stands.{match_for, newest_match}

or_left : (a b : Bool) → a ≡ true → (a || b) ≡ true
or_left true b h = refl
or_left false b h = absurd (cc)

or_right : (a b : Bool) → b ≡ true → (a || b) ≡ true
or_right true b h = refl
or_right false b h = h

all_place : (P : Request → Type 0) (xs : List Request) (i : ℕ) (x : Request) → AllOf P xs
    → slice_get xs i ≡ Some x → P x
all_place P [] i x all h = absurd (cc)
all_place P (y ∷ xs) zero x all h = let e : y ≡ x = cc in subst P e all.0
all_place P (y ∷ xs) (suc i) x all h = all_place P xs i x all.1 h

-- ---- a match is an answer that was consumed

module _ (t : Attempt) where
  match_reply : (d : Call) (r : Reply) (x : Answer) → match_at t d r ≡ Some x
      → is_for t (matched_in r) ≡ true
  match_reply (call.Answer l y) r x h = by_bool (is_for t (matched_in r))
      (λ z. cond z (Some y) None ≡ Some x → z ≡ true) (λ _ _. refl) (λ _ g. absurd (cc)) h
  match_reply _ r x h = absurd (cc)

  consumed_too : (r : Reply) → is_for t (matched_in r) ≡ true → is_for t (consumed_in r) ≡ true
  consumed_too (reply.Matched a b n) h = h
  consumed_too _ h = absurd (cc)

  answered_step : (e : Entry) (j : List Entry) (x : Answer) (o : Option Answer)
      → match_at t e.call e.reply ≡ o → (match_of j t ≡ Some x → answered j t ≡ true)
      → unless_before o (match_of j t) ≡ Some x → (is_for t (consumed_in e.reply) || answered j t)
      ≡ true
  answered_step e j x None at rest h = or_right (is_for t (consumed_in e.reply)) (answered j t)
      (rest h)
  answered_step e j x (Some y) at rest h = or_left (is_for t (consumed_in e.reply)) (answered j t)
      (consumed_too e.reply (match_reply e.call e.reply y at))

pub matched_answered : (t : Attempt) (j : List Entry) (x : Answer) → match_of j t ≡ Some x
    → answered j t ≡ true
unfolding match_of answered
matched_answered t [] x h = absurd (cc)
matched_answered t (e ∷ j) x h = answered_step t e j x (match_at t e.call e.reply) refl
    (λ g. matched_answered t j x g) h

-- ---- the newest match of a branch has the greatest number

record IsNewest (j : List Entry) (a : ℕ) (b : Branch) (x : Answer) : Type 0 where
  number : ℕ
  matched : match_of j (attempt_of a b number) ≡ Some x
  most : (m : ℕ) (y : Answer) → match_of j (attempt_of a b m) ≡ Some y → m ≤ number

-- an entry that matches no answer of the branch
unmatched : (a : ℕ) (b : Branch) (m : ℕ) (d : Call) (r : Reply) → match_for a b d r ≡ None
    → match_at (attempt_of a b m) d r ≡ None
unmatched a b m (call.Answer l y) (reply.Matched c d n) h =
    by_bool (is_branch_of a b (attempt_of c d n)) (λ z. is_branch_of a b (attempt_of c d n) ≡ z
    → cond z (Some y) None ≡ None → cond (same_attempt (attempt_of c d n) (attempt_of a b m))
    (Some y) None ≡ None)
    (λ _ _ g. absurd (cc))
    (λ _ other g. ap (λ z. cond z (Some y) None) (apart c d n other)) refl h
  where
    apart : (c : ℕ) (d : Branch) (n : ℕ) → ((c == a) && same_branch d b) ≡ false
        → ((c == a) && (same_branch d b && (n == m))) ≡ false
    apart c d n other = by (c == a) (same_branch d b) (n == m) other
      where
        by : (x y z : Bool) → (x && y) ≡ false → (x && (y && z)) ≡ false
        by false y z h = refl
        by true false z h = refl
        by true true z h = absurd (cc)
unmatched a b m (call.Answer l y) _ h = refl
unmatched a b m _ r h = refl

-- an entry that matches one
record IsMatchEntry (a : ℕ) (b : Branch) (d : Call) (r : Reply) (x : Answer) : Type 0 where
  line : ℕ
  number : ℕ
  call_is : d ≡ call.Answer line x
  reply_is : r ≡ reply.Matched a b number

match_entry : (a : ℕ) (b : Branch) (d : Call) (r : Reply) (x : Answer) → match_for a b d r ≡ Some x
    → IsMatchEntry a b d r x
match_entry a b (call.Answer l y) (reply.Matched c d n) x h =
    by_bool (is_branch_of a b (attempt_of c d n)) (λ z. is_branch_of a b (attempt_of c d n) ≡ z
    → cond z (Some y) None ≡ Some x → IsMatchEntry a b (call.Answer l y)
    (reply.Matched c d n) x)
    (λ _ yes g.
    let parts = and_parts (c == a) _ yes in
    let same : y ≡ x = cc in
    record {
      line = l;
      number = n;
      call_is = ap (call.Answer l) same;
      reply_is = λ i. reply.Matched (eqb-true c a parts.0 i) (same_branch_eq d b parts.1 i) n;
    })
    (λ _ _ g. absurd (cc)) refl h
match_entry a b (call.Answer l y) _ x h = absurd (cc)
match_entry a b _ r x h = absurd (cc)

matched_is : (r : Reply) (a n : ℕ) (b : Branch) → r ≡ reply.Matched a b n
    → consumed_in r ≡ Some (attempt_of a b n)
matched_is r a n b h = ap consumed_in h

unanswered : (j : List Entry) (q : Request) → is_pending j q ≡ true → answered j q.attempt ≡ false
unfolding is_pending
unanswered j q h = off (answered j q.attempt) (and_parts (not (answered j q.attempt)) _ h).0
  where
    off : (b : Bool) → not b ≡ true → b ≡ false
    off true h = absurd (cc)
    off false h = refl

-- what is matched was pending: the latest of its branch, and not matched before
record IsMatchedNow (j : List Entry) (t : Attempt) : Type 0 where
  going : IsGoing j t
  first : match_of j t ≡ None

matched_now : (p : Plan) (e : Entry) (j : List Entry) (l : ℕ) (x : Answer) (t : Attempt)
    → Lawful p (e ∷ j) → e.call ≡ call.Answer l x → consumed_in e.reply ≡ Some t → IsMatchedNow j t
matched_now p e j l x t legal ic is =
    let w = pl.answered_place p e j l x t legal ic is in
    let on = all_place (k.IsSentOn j l) (sends j l) w.3.place w.0
    (k.sends_on j l (begin_in_order p j legal.0)) w.3.is in
    subst (IsMatchedNow j) w.1 (record {
      going = rq.pending_going p j l w.0 legal.0 on w.2;
      first = none w.0.attempt (unanswered j w.0 w.2) (match_of j w.0.attempt) refl;
    })
  where
    none : (s : Attempt) → answered j s ≡ false → (o : Option Answer) → match_of j s ≡ o → o ≡ None
    none s fresh None h = refl
    none s fresh (Some y) h = absurd (clash _ (matched_answered s j y h) fresh)

newest_step : (p : Plan) (e : Entry) (j : List Entry) → Lawful p (e ∷ j)
    → (a : ℕ) (b : Branch) (x : Answer) (o : Option Answer) → match_for a b e.call e.reply ≡ o
    → (newest_match j a b ≡ Some x → IsNewest j a b x) → or_else o (newest_match j a b) ≡ Some x
    → IsNewest (e ∷ j) a b x
unfolding match_of
newest_step p e j legal a b x None at rest h =
    let old = rest h in
    record {
      number = old.number;
      matched = ap (λ q. unless_before q (match_of j (attempt_of a b old.number)))
          (unmatched a b old.number e.call e.reply at) ∙ old.matched;
      most = λ m y g. old.most m y (sym (ap (λ q. unless_before q (match_of j (attempt_of a b m)))
          (unmatched a b m e.call e.reply at)) ∙ g);
    }
newest_step p e j legal a b x (Some y) at rest h =
    let same : y ≡ x = cc in
    let now = match_entry a b e.call e.reply y at in
    let t : Attempt = attempt_of a b now.number in
    let it = matched_now p e j now.line y t legal now.call_is
    (matched_is e.reply a now.number b now.reply_is) in
    let here : match_at t e.call e.reply ≡ Some y = (λ i. match_at t (now.call_is i)
    (now.reply_is i)) ∙ ap (λ z. cond z (Some y) None) (same_attempt_refl t) in
    record {
      number = now.number;
      matched = (λ i. unless_before (here i) (it.first i)) ∙ ap Some same;
      most = λ m z g. below now.number m z it (match_at (attempt_of a b m) e.call e.reply)
          (λ q. own now.number m (match_reply (attempt_of a b m) e.call e.reply z q) now.reply_is)
          refl g;
    }
  where
    own : (n m : ℕ) → is_for (attempt_of a b m) (matched_in e.reply) ≡ true
        → e.reply ≡ reply.Matched a b n → m ≤ n
    own n m h is =
        let eq = same_attempt_eq (attempt_of a b n) (attempt_of a b m)
        (sym (ap (λ (r : Reply). is_for (attempt_of a b m) (matched_in r)) is) ∙ h) in
        let num : n ≡ m = ap (λ (s : Attempt). s.number) eq in omega arith

    below : (n m : ℕ) (z : Answer) → IsMatchedNow j (attempt_of a b n) → (q : Option Answer)
        → (match_at (attempt_of a b m) e.call e.reply ≡ Some z → m ≤ n)
        → match_at (attempt_of a b m) e.call e.reply ≡ q
        → unless_before q (match_of j (attempt_of a b m)) ≡ Some z → m ≤ n
    below n m z it None mine at g =
        let sent = c.answered_sent p j (attempt_of a b m) legal.0
        (matched_answered (attempt_of a b m) j z g) in
        let range = (attempts_in_order p j legal.0).numbered (attempt_of a b m)
        (k.sent_begun j (attempt_of a b m) sent) in
        let last = it.going.latest in
        let most = range.1 in
        omega arith
    below n m z it (Some w) mine at g = two (match_of j (attempt_of a b m)) refl g
      where
        two : (o : Option Answer) → match_of j (attempt_of a b m) ≡ o
            → unless_before (Some w) o ≡ Some z → m ≤ n
        two None is g2 = let same : w ≡ z = cc in mine (at ∙ ap Some same)
        two (Some v) is g2 =
            let sent = c.answered_sent p j (attempt_of a b m) legal.0
            (matched_answered (attempt_of a b m) j v is) in
            let range = (attempts_in_order p j legal.0).numbered (attempt_of a b m)
            (k.sent_begun j (attempt_of a b m) sent) in
            let last = it.going.latest in
            let most = range.1 in
            omega arith

newest_is : (p : Plan) (j : List Entry) → Lawful p j → (a : ℕ) (b : Branch) (x : Answer)
    → newest_match j a b ≡ Some x → IsNewest j a b x
unfolding newest_match
newest_is p [] legal a b x h = absurd (cc)
newest_is p (e ∷ j) legal a b x h = newest_step p e j legal a b x
    (match_for a b e.call e.reply) refl (λ g. newest_is p j legal.0 a b x g) h

-- a branch with a match has a newest
has_step : (e : Entry) (j : List Entry) (a n : ℕ) (b : Branch) (x : Answer) (o : Option Answer)
    → match_for a b e.call e.reply ≡ o → (match_of j (attempt_of a b n) ≡ Some x
    → newest_match j a b ≡ None → ⊥)
    → unless_before (match_at (attempt_of a b n) e.call e.reply) (match_of j (attempt_of a b n))
    ≡ Some x → or_else o (newest_match j a b) ≡ None → ⊥
has_step e j a n b x (Some y) at rest h none = cc
has_step e j a n b x None at rest h none = rest (sym
    (ap (λ q. unless_before q (match_of j (attempt_of a b n))) (unmatched a b n e.call e.reply at))
    ∙ h) none

has_newest : (j : List Entry) (a n : ℕ) (b : Branch) (x : Answer)
    → match_of j (attempt_of a b n) ≡ Some x → newest_match j a b ≡ None → ⊥
unfolding match_of newest_match
has_newest [] a n b x h none = cc
has_newest (e ∷ j) a n b x h none = has_step e j a n b x (match_for a b e.call e.reply) refl
    (λ g q. has_newest j a n b x g q) h none

-- ---- what a lane is to gather was matched

match_here : (t : Attempt) (i : List Entry) (d : Call) (y x : Reply) → GatherFor i d y x
    → gather_in x ≡ Some t → is_some (match_at t d y) ≡ true
match_here t i d y x (For l m a b n waiting) h =
    let is : attempt_of a b n ≡ t = cc in
    subst (λ (z : Attempt). is_some (match_at z (call.Answer l m) (reply.Matched a b n)) ≡ true) is
    (ap (λ z. is_some (cond z (Some m) None)) (same_attempt_refl (attempt_of a b n)))

has_first : (o q : Option Answer) → (is_some o ≡ true) ⊎ (is_some q ≡ true)
    → is_some (unless_before o q) ≡ true
has_first None q (inl h) = absurd (cc)
has_first None q (inr h) = h
has_first (Some x) None h = refl
has_first (Some x) (Some y) h = refl

some_match : (t : Attempt) (j : List Entry) → AtSome
    (λ i e. is_some (match_at t e.call e.reply) ≡ true) j → is_some (match_of j t) ≡ true
unfolding match_of
some_match t [] h = absurd h
some_match t (e ∷ j) (inl h) = has_first (match_at t e.call e.reply) (match_of j t) (inl h)
some_match t (e ∷ j) (inr h) = has_first (match_at t e.call e.reply) (match_of j t)
    (inr (some_match t j h))

gather_match : (p : Plan) (j : List Entry) (lane : ℕ) (d : Call) (x : Reply) (t : Attempt)
    → u.Ruled p j lane d x → gather_in x ≡ Some t → is_some (match_of j t) ≡ true
gather_match p j lane d x t (u.Gathers l n a b m e y next over) h =
    some_match t j (some_map _ _ (λ i w q. match_here t j w.call w.reply
    (reply.Gather l n a b m e y) q.1 h) j (gathers_from j (lane / 2)
    (reply.Gather l n a b m e y) next))
gather_match p j lane d x t (u.KillsBroken l y here run broken over) h = absurd (cc)
gather_match p j lane d x t _ h = absurd (cc)

is_for_is : (t : Attempt) (q : Option Attempt) → is_for t q ≡ true → q ≡ Some t
is_for_is t (Some x) h = ap Some (same_attempt_eq x t h)
is_for_is t None h = absurd (cc)

pub gathered_match : (p : Plan) (j : List Entry) (t : Attempt) → Lawful p j → gathered j t ≡ true
    → is_some (match_of j t) ≡ true
unfolding gathered match_of
gathered_match p [] t legal h = absurd (cc)
gathered_match p (e ∷ j) t legal h = elim (or_cases (is_for t (gather_in e.reply)) (gathered j t) h) [
  | inl here ↦ has_first (match_at t e.call e.reply) (match_of j t)
      (inr (gather_match p j e.lane e.call e.reply t (v.entry_ruled p e j legal)
      (is_for_is t (gather_in e.reply) here)))
  | inr before ↦ has_first (match_at t e.call e.reply) (match_of j t)
      (inr (gathered_match p j t legal.0 before))
]

-- ---- of the latest attempt of its branch the match is the newest

pub newest_of : (p : Plan) (j : List Entry) (t : Attempt) (x : Answer) → Lawful p j → IsGoing j t
    → match_of j t ≡ Some x → newest_match j t.action t.branch ≡ Some x
newest_of p j t x legal going at = by (newest_match j t.action t.branch) refl
  where
    by : (o : Option Answer) → newest_match j t.action t.branch ≡ o → o ≡ Some x
    by None h = absurd (has_newest j t.action t.number t.branch x at h)
    by (Some y) h =
        let new = newest_is p j legal t.action t.branch y h in
        let up = new.most t.number x at in
        let sent = c.answered_sent p j (attempt_of t.action t.branch new.number) legal
        (matched_answered (attempt_of t.action t.branch new.number) j y new.matched) in
        let range = (attempts_in_order p j legal).numbered (attempt_of t.action t.branch new.number)
        (k.sent_begun j (attempt_of t.action t.branch new.number) sent) in
        let down = range.1 in
        let last = going.latest in
        let same : t.number ≡ new.number = omega arith in
        sym new.matched ∙ ap (λ n. match_of j (attempt_of t.action t.branch n)) (sym same) ∙ at

-- ---- the attempt that a lane is to gather

gather_of_work : (t : Attempt) (o : Option Entry) → gather_of_entry o ≡ Some t
    → (d : Entry) × (o ≡ Some d) × (is_gather t d ≡ true)
gather_of_work t None h = absurd (cc)
gather_of_work t (Some d) h = (d, refl, ap (is_for t) h ∙ same_attempt_refl t)

pub gathering_ordered : (p : Plan) (j : List Entry) (lane : ℕ) (t : Attempt)
    → gather_of_entry (last_work j lane) ≡ Some t → gathered j t ≡ true
gathering_ordered p j lane t h = let w = gather_of_work t (last_work j lane) h in
    c.gathered_newest j t lane w.0 w.1 w.2

done_unfed : (q : Option Written) → says_done q ≡ true → says_feed_fault q ≡ false
done_unfed (Some write.Done) h = refl
done_unfed _ h = absurd (cc)

-- it is under way
pub gathering_going : (p : Plan) (j : List Entry) (lane : ℕ) (t : Attempt) → Lawful p j
    → gather_of_entry (last_work j lane) ≡ Some t → IsGoing j t
gathering_going p j lane t legal h =
    let w = gather_of_work t (last_work j lane) h in
    let ordered = c.gathered_newest j t lane w.0 w.1 w.2 in
    let was = c.gathered_is p j t legal ordered in
    let none = c.owed_unclaimed p j t legal lane w.0 w.1 w.2 in
    kn.match_going p j t legal was.consumed (gr.done_written (wrote j t) was.written)
    (done_unfed (wrote j t) was.written) none
