-- A berth's matches since its last Send and the pending requests of its last line are together at
-- most the line's capacity: so there is room for the next match.
use Rattle.std.proofs.Common.{◌≡◌, ℕ, zero, suc, ◌+◌, ◌/◌, ◌<◌, ◌≤◌, ◌==◌, Bool, true, false, cond, List, [], ◌∷◌, length, Option, Some, None, refl, sym, ap, subst, ◌∙◌, arith}
use Rattle.std.specs.Prelude.{slice_get}
use Rattle.std.specs.List.{filter}
use Rattle.std.proofs.lemmas.Bool.{eqb-true, eq-eqb, and_parts, and_from, or_left}
use Rattle.run_plan.specs.declared.plan.Plan.{Plan}
use Rattle.exec_journal.specs.declared.attempt.Attempt.{Attempt}
use Rattle.exec_journal.specs.Entry.{Entry}
use Rattle.exec_journal.specs.declared.call.Answer.{Answer}
use Rattle.exec_journal.specs.declared.call.Call.{Call}
use Rattle.exec_journal.specs.declared.call.Call.TheVariants as call
use Rattle.exec_journal.specs.declared.reply.Reply.{Reply}
use Rattle.exec_journal.specs.declared.reply.Reply.TheVariants as reply
use Rattle.list_lemmas.specs.Options.{and_more}
use Rattle.exec_journal.specs.Entries.{Request, attempt_of, is_for, launch_in, send_in, consumed_in}
use Rattle.exec_journal.specs.Words.{last_line, sends, sent_on, pending, is_pending, answered}
use Rattle.run_plan.specs.Groups.{capacity}
use Rattle.run_plan.specs.declared.plan.Kind.{Kind}
use Rattle.run_plan.specs.declared.plan.Kind.TheVariants as kind
use Rattle.exec_journal.specs.Seated.{line_kind}
use Rattle.exec_journal.specs.Lawful.{Lawful}
use Rattle.exec_journal.specs.Facts.{call_line}
use Rattle.exec_journal.proofs.Ruled.{by_bool}
use Rattle.exec_journal.proofs.Begins.{same_attempt_refl}
use Rattle.journal_laws.proofs.Over as v
use Rattle.journal_laws.proofs.Claims.{clash, false_by}
use Rattle.journal_laws.proofs.Requests as q
use Rattle.journal_laws.proofs.Lanes as la
use Rattle.journal_laws.proofs.Places as pl
use Rattle.call_laws.proofs.LastLines as ll
use Rattle.call_laws.proofs.Calls as ca
use Rattle.call_laws.specs.Matches.{Matched, matched_at, matched_by, sends_at, recent}

-- ---- counting

fewer : (f g : Request → Bool) (xs : List Request) → ((x : Request) → f x ≡ true → g x ≡ true)
    → length (filter f xs) ≤ length (filter g xs)
fewer f g [] imp = omega arith
fewer f g (x ∷ xs) imp =
    by_bool (f x) (λ b. f x ≡ b → length (cond b (x ∷ filter f xs) (filter f xs)) ≤ length
    (filter g (x ∷ xs)))
    (λ _ on. rw (imp x on) (let n = fewer f g xs imp in omega arith))
    (λ _ _. by_bool (g x) (λ b. length (filter f xs) ≤ length
    (cond b (x ∷ filter g xs) (filter g xs))) (λ _. let n = fewer f g xs imp in omega arith)
    (λ _. fewer f g xs imp)) refl

one_fewer : (f g : Request → Bool) (xs : List Request) (i : ℕ) (x : Request)
    → slice_get xs i ≡ Some x → f x ≡ false → g x ≡ true → ((y : Request) → f y ≡ true → g y ≡ true)
    → length (filter f xs) + 1 ≤ length (filter g xs)
one_fewer f g [] i x h off on imp = absurd (cc)
one_fewer f g (y ∷ xs) zero x h off on imp =
    let e : y ≡ x = cc in
    rw (subst (λ z. f z ≡ false) (sym e) off, subst (λ z. g z ≡ true) (sym e) on)
    (let n = fewer f g xs imp in omega arith)
one_fewer f g (y ∷ xs) (suc i) x h off on imp =
    by_bool (f y) (λ b. f y ≡ b → length (cond b (y ∷ filter f xs) (filter f xs)) + 1 ≤ length
    (filter g (y ∷ xs)))
    (λ _ yes_f. rw (imp y yes_f) (let n = one_fewer f g xs i x h off on imp in omega arith))
    (λ _ _. by_bool (g y) (λ b. length (filter f xs) + 1 ≤ length
    (cond b (y ∷ filter g xs) (filter g xs))) (λ _. let n = one_fewer f g xs i x h off on imp in
    omega arith) (λ _. one_fewer f g xs i x h off on imp)) refl

-- ---- pending requests, entry by entry

pending_same : (e : Entry) (j : List Entry) (l : ℕ) → sent_on l e.reply ≡ None
    → length (pending (e ∷ j) l) ≤ length (pending j l)
unfolding pending
pending_same e j l h = rw (q.sends_same e j l h) (fewer (is_pending (e ∷ j)) (is_pending j)
    (sends j l) (λ x y. q.pending_before e j x y))

pending_one_more : (e : Entry) (j : List Entry) (l : ℕ) (x : Request) → sent_on l e.reply ≡ Some x
    → length (pending (e ∷ j) l) ≤ length (pending j l) + 1
unfolding pending
pending_one_more e j l x h =
    let n = fewer (is_pending (e ∷ j)) (is_pending j) (sends j l)
    (λ y z. q.pending_before e j y z) in
    rw (q.sends_grow e j l x h) (by_bool (is_pending (e ∷ j) x)
    (λ b. length (cond b (x ∷ filter (is_pending (e ∷ j)) (sends j l))
    (filter (is_pending (e ∷ j)) (sends j l))) ≤ length (filter (is_pending j) (sends j l)) + 1)
    (λ _. omega arith) (λ _. omega arith))

answered_closed : (j : List Entry) (x : Request) → answered j x.attempt ≡ true
    → is_pending j x ≡ false
answered_closed j x h = false_by _ (λ y. clash (answered j x.attempt) h
    (q.pending_is j x y).unanswered)

consumed_now : (e : Entry) (j : List Entry) (t : Attempt) → consumed_in e.reply ≡ Some t
    → answered (e ∷ j) t ≡ true
unfolding answered
consumed_now e j t h = or_left (is_for t (consumed_in e.reply)) _
    (subst (λ (o : Option Attempt). is_for t o ≡ true) (sym h) (same_attempt_refl t))

pending_one_fewer : (e : Entry) (j : List Entry) (l i : ℕ) (x : Request) → sent_on l e.reply ≡ None
    → slice_get (sends j l) i ≡ Some x → is_pending j x ≡ true
    → consumed_in e.reply ≡ Some x.attempt → length (pending (e ∷ j) l) + 1 ≤ length (pending j l)
unfolding pending
pending_one_fewer e j l i x none at up is =
    rw (q.sends_same e j l none) (one_fewer (is_pending (e ∷ j)) (is_pending j) (sends j l) i x at
    (answered_closed (e ∷ j) x (consumed_now e j x.attempt is)) up
    (λ y z. q.pending_before e j y z))

no_pending : (j : List Entry) (l : ℕ) → sends j l ≡ [] → length (pending j l) ≡ 0
unfolding pending
no_pending j l h = rw h refl

-- ---- on a berth's last line

abbrev pub waiting_on : List Entry → Option ℕ → ℕ
waiting_on j (Some l) = length (pending j l)
waiting_on j None = 0

matched_is : (w : ℕ) (e : Entry) (m : Matched) → matched_at w e ≡ Some m
    → (e.lane / 2 ≡ w) × (l : ℕ) × (x : Answer) × (t : Attempt) × (e.call ≡ call.Answer l x)
    × (e.reply ≡ reply.Matched t.action t.branch t.number)
matched_is w e m h =
    by_bool (e.lane / 2 == w) (λ b. (e.lane / 2 == w) ≡ b
    → cond b (matched_by e.call e.reply) None ≡ Some m
    → (e.lane / 2 ≡ w) × (l : ℕ) × (x : Answer) × (t : Attempt) × (e.call ≡ call.Answer l x)
    × (e.reply ≡ reply.Matched t.action t.branch t.number))
    (λ _ same g. let y = of_entry e.call e.reply g in (
      eqb-true
          (e.lane / 2) w same,
      y.0,
      y.1,
      y.2,
      y.3,
      y.4,
    )) (λ _ _ g. absurd (cc)) refl h
  where
    of_entry : (d : Call) (z : Reply) → matched_by d z ≡ Some m
        → (l : ℕ) × (x : Answer) × (t : Attempt) × (d ≡ call.Answer l x)
        × (z ≡ reply.Matched t.action t.branch t.number)
    of_entry (call.Answer l a) (reply.Matched n b t) g = (l, a, attempt_of n b t, refl, refl)
    of_entry _ _ g = absurd (cc)

sent_on_own : (x : Reply) (y : Request) → send_in x ≡ Some y → sent_on y.line x ≡ Some y
sent_on_own (reply.Send l n a b t) y h =
    let e : record { line = l; number = n; attempt = attempt_of a b t } ≡ y = cc in
    subst (λ (z : Request). sent_on z.line (reply.Send l n a b t) ≡ Some z) e
    (rw (eq-eqb l l refl) refl)
sent_on_own _ y h = absurd (cc)

send_launches_none : (x : Reply) (y : Request) → send_in x ≡ Some y → launch_in x ≡ None
send_launches_none (reply.Send l n a b t) y h = refl
send_launches_none _ y h = absurd (cc)

cleared : (e : Entry) (j : List Entry) (w : ℕ) → sends_at w e ≡ true → length (recent (e ∷ j) w) ≡ 0
unfolding recent
cleared e j w h = rw h refl

one_more : (e : Entry) (j : List Entry) (w : ℕ) (o : Option Matched) → sends_at w e ≡ false
    → matched_at w e ≡ o → length (recent (e ∷ j) w) ≡ length (and_more o (recent j w))
unfolding recent
one_more e j w o off is = rw (off, is) refl

below_eight : (k : Kind) (n : ℕ) → n < capacity k → n < 8
below_eight kind.Single n h = omega arith
below_eight kind.Multi n h = h
below_eight kind.Boxed n h = h
below_eight kind.Remote n h = h

module _ (p : Plan) (e : Entry) (j : List Entry) (w : ℕ) (legal : Lawful p (e ∷ j)) where
  own_send : (l : ℕ) (x : Request) → last_line j w ≡ Some l → sent_on l e.reply ≡ Some x
      → sends_at w e ≡ true
  own_send l x here is =
      let s = q.sent_on_is l e.reply x is in
      let to = q.sends_to p j e.lane l e.call e.reply x (v.entry_ruled p e j legal) s.0 s.1 in
      let same = la.berths_same j l (e.lane / 2) w (la.here_own p j (e.lane / 2) l legal.0 to.here)
      (la.here_own p j w l legal.0 here) in
      and_from _ _ (eq-eqb (e.lane / 2) w same) (v.is_some_from (send_in e.reply) x s.0)

  less : (o : Option ℕ) → last_line j w ≡ o → sends_at w e ≡ false
      → waiting_on (e ∷ j) o ≤ waiting_on j o
  less None here off = omega arith
  less (Some l) here off = by (sent_on l e.reply) refl
    where
      by : (z : Option Request) → sent_on l e.reply ≡ z → length (pending (e ∷ j) l) ≤ length
          (pending j l)
      by None is = pending_same e j l is
      by (Some x) is = absurd (clash (sends_at w e) (own_send l x here is) off)

  at_send : (o : Option ℕ) → last_line (e ∷ j) w ≡ o → sends_at w e ≡ true → 1 ≤ p.limit
      → length (recent (e ∷ j) w) + waiting_on (e ∷ j) o ≤ 8
  at_send o here on least =
      let parts = and_parts (e.lane / 2 == w) _ on in
      let same = eqb-true (e.lane / 2) w parts.0 in
      let x = v.some_is (send_in e.reply) parts.1 in
      let to = q.sends_to p j e.lane x.0.line e.call e.reply x.0
      (v.entry_ruled p e j legal) x.1 refl in
      let there : last_line j w ≡ Some x.0.line = subst (λ n. last_line j n ≡ Some x.0.line) same
      to.here in
      let last : o ≡ Some x.0.line = sym here ∙ ll.last_same e j w
      (send_launches_none e.reply x.0 x.1) ∙ there in
      let place : length (pending j x.0.line) < 8 = below_eight (line_kind p j x.0.line)
      (length (pending j x.0.line)) (pl.numbered_send p e j x.0 legal least x.1).place in
      let more = pending_one_more e j x.0.line x.0 (sent_on_own e.reply x.0 x.1) in
      let none = cleared e j w on in
      subst (λ z. length (recent (e ∷ j) w) + waiting_on (e ∷ j) z ≤ 8)
      (sym last) (omega (arith, none, more, place))

  at_match : (o : Option ℕ) (m : Matched) → last_line (e ∷ j) w ≡ o → sends_at w e ≡ false
      → matched_at w e ≡ Some m → length (recent j w) + waiting_on j (last_line j w) ≤ 8 → length (recent (e ∷ j) w) + waiting_on (e ∷ j) o ≤ 8
  at_match o m here off is ih =
      let a = matched_is w e m is in
      let consumed : consumed_in e.reply ≡ Some a.3 = ap consumed_in a.5 in
      let y = ca.consumed_request p e j a.1 a.2 a.3 legal a.4 consumed in
      let at = pl.asked_place p j a.1 a.2 y.0 y.2 in
      let named : last_line j (e.lane / 2) ≡ Some a.1 = ll.names_last p j e.lane a.1 e.call legal.0
      legal.1.scripted (ap call_line a.4) in
      let there : last_line j w ≡ Some a.1 = subst (λ n. last_line j n ≡ Some a.1) a.0 named in
      let last : o ≡ Some a.1 = sym here ∙ ll.last_same e j w (ap launch_in a.5) ∙ there in
      let one = pending_one_fewer e j a.1 at.place y.0 (ap (sent_on a.1) a.5) at.is y.2.is_open
      (consumed ∙ ap Some (sym y.1)) in
      let grown : length (recent (e ∷ j) w) ≡ suc (length (recent j w)) =
      one_more e j w (Some m) off is in
      let before : length (recent j w) + length (pending j a.1) ≤ 8 =
      subst (λ z. length (recent j w) + waiting_on j z ≤ 8) there ih in
      subst (λ z. length (recent (e ∷ j) w) + waiting_on (e ∷ j) z ≤ 8)
      (sym last) (omega (arith, one, grown, before))

  at_other : (o : Option ℕ) → last_line (e ∷ j) w ≡ o → sends_at w e ≡ false → matched_at w e ≡ None
      → length (recent j w) + waiting_on j (last_line j w) ≤ 8
      → length (recent (e ∷ j) w) + waiting_on (e ∷ j) o ≤ 8
  at_other o here off is ih = by (launch_in e.reply) refl
    where
      same_count : length (recent (e ∷ j) w) ≡ length (recent j w)
      same_count = one_more e j w None off is

      kept : last_line (e ∷ j) w ≡ last_line j w → length (recent (e ∷ j) w) + waiting_on
          (e ∷ j) o ≤ 8
      kept same =
          let n = same_count in
          let there : last_line j w ≡ o = sym same ∙ here in
          let before : length (recent j w) + waiting_on j o ≤ 8 =
          subst (λ z. length (recent j w) + waiting_on j z ≤ 8) there ih in
          let fall = less o there off in
          omega (arith, n, before, fall)

      by : (z : Option (ℕ × Attempt)) → launch_in e.reply ≡ z
          → length (recent (e ∷ j) w) + waiting_on (e ∷ j) o ≤ 8
      by None at = kept (ll.last_same e j w at)
      by (Some y) at =
          by_bool (e.lane / 2 == w) (λ b. (e.lane / 2 == w) ≡ b
          → length (recent (e ∷ j) w) + waiting_on (e ∷ j) o ≤ 8)
          (λ _ mine.
          let new : last_line (e ∷ j) w ≡ Some y.0 = subst (λ n. last_line (e ∷ j) n ≡ Some y.0)
          (eqb-true (e.lane / 2) w mine) (ll.last_new e j y.0 y.1 at) in
          let last : o ≡ Some y.0 = sym here ∙ new in
          let none = no_pending (e ∷ j) y.0 (q.new_line_unsent p e j y.0 y.1 legal at) in
          let n = same_count in
          subst (λ z. length (recent (e ∷ j) w) + waiting_on (e ∷ j) z ≤ 8)
          (sym last) (omega (arith, n, none, ih)))
          (λ _ apart. kept (ll.last_other e j w apart)) refl

pub matches_fit : (p : Plan) (j : List Entry) (w : ℕ) → Lawful p j → 1 ≤ p.limit
    → length (recent j w) + waiting_on j (last_line j w) ≤ 8
unfolding recent last_line
matches_fit p [] w legal least = omega arith
matches_fit p (e ∷ j) w legal least =
    by_bool (sends_at w e) (λ b. sends_at w e ≡ b → length (recent j w) + waiting_on j
    (last_line j w) ≤ 8 → length (recent (e ∷ j) w) + waiting_on (e ∷ j)
    (last_line (e ∷ j) w) ≤ 8)
    (λ _ on ih. at_send p e j w legal (last_line (e ∷ j) w) refl on least)
    (λ _ off ih. by (matched_at w e) refl off ih) refl (matches_fit p j w legal.0 least)
  where
    by : (o : Option Matched) → matched_at w e ≡ o → sends_at w e ≡ false
        → length (recent j w) + waiting_on j (last_line j w) ≤ 8
        → length (recent (e ∷ j) w) + waiting_on (e ∷ j) (last_line (e ∷ j) w) ≤ 8
    by None is off ih = at_other p e j w legal (last_line (e ∷ j) w) refl off is ih
    by (Some m) is off ih = at_match p e j w legal (last_line (e ∷ j) w) m refl off is ih

-- so where a request of the line is pending, there is room for its match
pub room_for_match : (p : Plan) (j : List Entry) (w l : ℕ) → Lawful p j → 1 ≤ p.limit
    → last_line j w ≡ Some l → length (recent j w) + length (pending j l) ≤ 8
room_for_match p j w l legal least here = subst (λ z. length
    (recent j w) + waiting_on j z ≤ 8) here (matches_fit p j w legal least)
