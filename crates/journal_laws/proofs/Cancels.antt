-- A pending request for which a Cancel was ordered: its action has a grant. So no answer that says cancelled is Matched.
use Rattle.std.proofs.Common.{◌≡◌, ℕ, ◌/◌, ◌==◌, Bool, true, false, ◌&&◌, ◌||◌, not, cond, List, [], ◌∷◌, Option, Some, None, ◌⊎◌, inl, inr, refl, sym, subst, ◌∙◌}
use Rattle.std.specs.List.{list_any, filter, find}
use Rattle.std.specs.Ordering.{int_eq}
use Rattle.std.proofs.lemmas.Bool.{eqb-true, eq-eqb, and_parts, and_from, or_cases, or_left, or_right}
use Rattle.std.proofs.lemmas.Bool.Decides.{Decides-int_eq}
use Rattle.run_plan.specs.declared.plan.Plan.{Plan}
use Rattle.exec_journal.specs.declared.attempt.Attempt.{Attempt}
use Rattle.exec_journal.specs.Entry.{Entry}
use Rattle.exec_journal.specs.declared.call.Answer.{Answer}
use Rattle.exec_journal.specs.declared.call.Call.{Call}
use Rattle.exec_journal.specs.declared.call.Call.TheVariants as call
use Rattle.exec_journal.specs.declared.reply.Reply.{Reply}
use Rattle.exec_journal.specs.declared.reply.Reply.TheVariants as reply
use Rattle.exec_journal.specs.Entries.{Request, same_attempt, send_in, matched_in}
use Rattle.exec_journal.specs.Words.{launch_of, sends, sent_on, pending, is_pending, was_sent, has_cancel, cancels, granted}
use Rattle.exec_journal.specs.Settled.{wanted}
use Rattle.run_plan.specs.Groups.{is_single}
use Rattle.exec_journal.specs.Seated.{line_kind}
use Rattle.exec_journal.specs.Rules as r
use Rattle.exec_journal.specs.Rules.{is_unwanted}
use Rattle.exec_journal.specs.Lawful.{Lawful}
use Rattle.exec_journal.specs.Facts.{call_line, IsOfBerth, OfBerth}
use Rattle.journal_laws.specs.Invariant.{NumberedAs, older, EachRequest}
use Rattle.exec_journal.proofs.Histories.{AllOf, all_oldest, all_filter}
use Rattle.exec_journal.proofs.Reasons as u
use Rattle.exec_journal.proofs.Ruled.{by_bool, not_true}
use Rattle.exec_journal.proofs.Lines.{lines_named, pending_line}
use Rattle.exec_journal.proofs.Begins.{begin_in_order, same_attempt_eq}
use Rattle.journal_laws.proofs.Carried as k
use Rattle.journal_laws.proofs.Over as v
use Rattle.journal_laws.proofs.Claims.{clash, false_by}
use Rattle.journal_laws.proofs.Firm as f
use Rattle.journal_laws.proofs.Requests as q
use Rattle.journal_laws.proofs.Keeping as ke
use Rattle.journal_laws.proofs.Offered as of
use Rattle.journal_laws.proofs.Endings as en
use Rattle.journal_laws.proofs.Lanes as la

-- it has a Cancel, is pending, and its action has no grant: that is never so
abbrev pub is_vain : List Entry → Request → Bool
is_vain j x = has_cancel j x && (is_pending j x && not (granted j x.attempt.action))

cancel_sent : (j : List Entry) (x : Request) → has_cancel j x ≡ true → was_sent j x.attempt ≡ true
unfolding has_cancel
cancel_sent [] x h = absurd (cc)
cancel_sent (e ∷ j) x h = k.sent_later e j x.attempt (elim (or_cases (cancels x e.reply && was_sent j x.attempt) _ h) [
  | inl here ↦ (and_parts (cancels x e.reply) _ here).1
  | inr before ↦ cancel_sent j x before
])

cancel_cases : (e : Entry) (j : List Entry) (x : Request) → has_cancel (e ∷ j) x ≡ true → (cancels x e.reply ≡ true) ⊎ (has_cancel j x ≡ true)
unfolding has_cancel
cancel_cases e j x h = elim (or_cases (cancels x e.reply && was_sent j x.attempt) _ h) [ inl here ↦ inl (and_parts (cancels x e.reply) _ here).0 | inr before ↦ inr before ]

-- ---- the request that a Cancel names

not_wanted_won : (b : Bool) → not b ≡ false → b ≡ true
not_wanted_won true k = refl
not_wanted_won false k = absurd (cc)

find_there : (test : Request → Bool) (qs : List Request) → list_any test qs ≡ true → (x : Request) × (find test qs ≡ Some x)
find_there test [] h = absurd (cc)
find_there test (y ∷ qs) h =
    by_bool (test y) (λ b. test y ≡ b → (x : Request) × (cond b (Some y) (find test qs) ≡ Some x)) (λ _ _. (y, refl))
    (λ _ off. elim (or_cases (test y) _ h) [ inl a ↦ absurd (clash _ a off) | inr b ↦ find_there test qs b ]) refl

-- the requests of the line with the number of that to cancel: those that are pending are of its attempt
module _ (p : Plan) (j : List Entry) (w l : ℕ) (y : Request) (legal : Lawful p j) (own : IsOfBerth j l w) (which : r.oldest (filter (λ z. is_unwanted p j z && not (has_cancel j z)) (pending j l)) ≡ Some y) where
  is_found : k.IsSentOn j l y × (is_pending j y ≡ true) × (granted j y.attempt.action ≡ true)
  unfolding pending
  is_found =
      let all = ke.filter_passes (λ z. k.IsSentOn j l z × (is_pending j z ≡ true)) (λ z. is_unwanted p j z && not (has_cancel j z)) _ (ke.filter_passes (k.IsSentOn j l) (is_pending j) (sends j l) (k.sends_on j l (begin_in_order p j legal))) in
      let at = all_oldest (λ (z : Request). (k.IsSentOn j l z × (is_pending j z ≡ true)) × ((is_unwanted p j z && not (has_cancel j z)) ≡ true)) _ y all which in
      let going = q.pending_going p j l y legal at.0.0 at.0.1 in
      let off : wanted p j y.attempt.action y.attempt.branch ≡ false = not_true _ (and_parts (is_unwanted p j y) _ at.1).0 in
      (at.0.0, at.0.1, not_wanted_won (granted j y.attempt.action) (sym (f.going_wanted p j y.attempt legal going) ∙ off))

  -- a pending request with the number: its action has the grant
  pub Won : Request → Type 0
  Won x = (is_pending j x && (int_eq y.number x.number && not (granted j x.attempt.action))) ≡ false

  won_same : (x : Request) → same_attempt y.attempt x.attempt ≡ true → Won x
  unfolding Won
  won_same x same =
      let won : granted j x.attempt.action ≡ true = subst (λ (t : Attempt). granted j t.action ≡ true) (same_attempt_eq y.attempt x.attempt same) is_found.2 in
      false_by _ (λ h. clash _ won (not_true _ (and_parts (int_eq y.number x.number) _ (and_parts (is_pending j x) _ h).1).1))

  single_won : (qs : List Request) → EachRequest (λ x. is_pending j x ≡ false) (older qs) → r.oldest (filter (λ z. is_unwanted p j z && not (has_cancel j z)) (filter (is_pending j) qs)) ≡ Some y → EachRequest Won qs
  unfolding Won
  single_won [] closed h = tt
  single_won (x ∷ qs) closed h = (head, rest qs closed)
    where
      rest : (ys : List Request) → EachRequest (λ z. is_pending j z ≡ false) ys → EachRequest (λ z. (is_pending j z && (int_eq y.number z.number && not (granted j z.attempt.action))) ≡ false) ys
      rest [] all = tt
      rest (z ∷ ys) all = (rw all.0 refl, rest ys all.1)

      no_rest : (ys : List Request) → EachRequest (λ z. is_pending j z ≡ false) ys → filter (is_pending j) ys ≡ []
      no_rest [] all = refl
      no_rest (z ∷ ys) all = rw all.0 (no_rest ys all.1)

      head : (is_pending j x && (int_eq y.number x.number && not (granted j x.attempt.action))) ≡ false
      head =
          by_bool (is_pending j x) (λ b. is_pending j x ≡ b → r.oldest (filter (λ z. is_unwanted p j z && not (has_cancel j z)) (cond b (x ∷ filter (is_pending j) qs) (filter (is_pending j) qs))) ≡ Some y
          → (b && (int_eq y.number x.number && not (granted j x.attempt.action))) ≡ false)
          (λ _ on m. let only : r.oldest (filter (λ z. is_unwanted p j z && not (has_cancel j z)) (x ∷ [])) ≡ Some y = subst (λ ys. r.oldest (filter (λ z. is_unwanted p j z && not (has_cancel j z)) (x ∷ ys)) ≡ Some y) (no_rest qs closed) m in
          let same : x ≡ y = by_bool (is_unwanted p j x && not (has_cancel j x)) (λ b. r.oldest (cond b (x ∷ []) []) ≡ Some y → x ≡ y) (λ _ n. cc) (λ _ n. absurd (cc)) only in
          let won : granted j x.attempt.action ≡ true = subst (λ (z : Request). granted j z.attempt.action ≡ true) (sym same) is_found.2 in
          false_by _ (λ g. clash _ won (not_true _ (and_parts (int_eq y.number x.number) _ g).1)))
          (λ _ _ _. refl) refl h

  multi_won : NumberedAs false (sends j l) → EachRequest Won (sends j l)
  unfolding pending Won
  multi_won numbers =
      let there = any_oldest_of (sends j l) which in
      let z = find_there (λ x. int_eq x.number y.number) (sends j l) there in
      let all = of.by_number (sends j l) y.number z.0 numbers (of.distinct p j l legal) z.1 in
      let mine = all_oldest (λ (x : Request). same_attempt (z.0).attempt x.attempt ≡ int_eq x.number y.number) _ y (all_filter _ (λ x. is_unwanted p j x && not (has_cancel j x)) _ (all_filter _ (is_pending j) (sends j l) all)) which in
      let z_is : (z.0).attempt ≡ y.attempt = same_attempt_eq (z.0).attempt y.attempt (mine ∙ (Decides-int_eq y.number y.number).1 refl) in
      of.each_of _ (sends j l) (k.all_map _ Won (λ x h. one x (subst (λ (t : Attempt). same_attempt t x.attempt ≡ int_eq x.number y.number) z_is h)) (sends j l) all)
    where
      one : (x : Request) → same_attempt y.attempt x.attempt ≡ int_eq x.number y.number → (is_pending j x && (int_eq y.number x.number && not (granted j x.attempt.action))) ≡ false
      one x same =
          by_bool (int_eq y.number x.number) (λ b. int_eq y.number x.number ≡ b → (is_pending j x && (b && not (granted j x.attempt.action))) ≡ false)
          (λ _ equal. (let back : int_eq x.number y.number ≡ true = (Decides-int_eq x.number y.number).1 (sym ((Decides-int_eq y.number x.number).0 equal)) in
          let won : granted j x.attempt.action ≡ true = subst (λ (t : Attempt). granted j t.action ≡ true) (same_attempt_eq y.attempt x.attempt (same ∙ back)) is_found.2 in
          rw won (nothing (is_pending j x))))
          (λ _ _. nothing (is_pending j x)) refl
        where
          nothing : (b : Bool) → (b && false) ≡ false
          nothing true = refl
          nothing false = refl

      any_oldest_of : (qs : List Request) → r.oldest (filter (λ z. is_unwanted p j z && not (has_cancel j z)) (filter (is_pending j) qs)) ≡ Some y → list_any (λ x. int_eq x.number y.number) qs ≡ true
      any_oldest_of qs h = any_filtered qs (ke.any_of_oldest (λ z. is_unwanted p j z && not (has_cancel j z)) (λ x. int_eq x.number y.number) (filter (is_pending j) qs) y h ((Decides-int_eq y.number y.number).1 refl))
        where
          any_filtered : (ys : List Request) → list_any (λ x. int_eq x.number y.number) (filter (is_pending j) ys) ≡ true → list_any (λ x. int_eq x.number y.number) ys ≡ true
          any_filtered [] m = absurd (cc)
          any_filtered (x ∷ ys) m =
              by_bool (is_pending j x) (λ b. list_any (λ v. int_eq v.number y.number) (cond b (x ∷ filter (is_pending j) ys) (filter (is_pending j) ys)) ≡ true → (int_eq x.number y.number || list_any (λ v. int_eq v.number y.number) ys) ≡ true)
              (λ _ n. elim (or_cases (int_eq x.number y.number) _ n) [ inl a ↦ or_left _ _ a | inr b ↦ or_right (int_eq x.number y.number) _ (any_filtered ys b) ])
              (λ _ n. or_right (int_eq x.number y.number) _ (any_filtered ys n)) m

  pub named_won : EachRequest Won (sends j l)
  unfolding pending
  named_won =
      let facts = q.line_facts p j l w legal own in
      by_bool (is_single (line_kind p j l)) (λ b. is_single (line_kind p j l) ≡ b → EachRequest Won (sends j l))
      (λ _ one. single_won (sends j l) (facts.closed one) which)
      (λ _ many. multi_won (subst (λ b. NumberedAs b (sends j l)) many facts.numbers)) refl

-- ---- entry by entry

data CancelsAt (p : Plan) (j : List Entry) (l : ℕ) (x : Reply) : Type 0 where
  Nowhere : ((z : Request) → z.line ≡ l → cancels z x ≡ false) → CancelsAt p j l x
  Here : (w : ℕ) (y : Request) → IsOfBerth j l w → r.oldest (filter (λ z. is_unwanted p j z && not (has_cancel j z)) (pending j l)) ≡ Some y → x ≡ reply.Cancel y.line y.number → CancelsAt p j l x

cancels_at : (p : Plan) (j : List Entry) (lane l : ℕ) (d : Call) (x : Reply) → Lawful p j → u.Ruled p j lane d x → CancelsAt p j l x
cancels_at p j lane l d x legal (u.Cancels m y here alive may which none) =
    by_bool (m == l) (λ b. (m == l) ≡ b → CancelsAt p j l (reply.Cancel y.line y.number))
    (λ _ same. let e = eqb-true m l same in
    Here (lane / 2) y (subst (λ i. IsOfBerth j i (lane / 2)) e (la.here_own p j (lane / 2) m legal here))
    (subst (λ i. r.oldest (filter (λ z. is_unwanted p j z && not (has_cancel j z)) (pending j i)) ≡ Some y) e which) refl)
    (λ _ off. let line : y.line ≡ m = all_oldest (λ (z : Request). z.line ≡ m) _ y (all_filter (λ (z : Request). z.line ≡ m) _ (pending j m) (pending_line j m)) which in
    Nowhere (λ z at. false_by _ (λ h. clash (m == l) (eq-eqb m l (sym line ∙ eqb-true y.line z.line (and_parts (y.line == z.line) _ h).0 ∙ at)) off))) refl
cancels_at p j lane l d x legal (u.KillsBroken m y here run broken over) = Nowhere (λ z at. refl)
cancels_at p j lane l d x legal (u.Notes e n) = Nowhere (λ z at. refl)
cancels_at p j lane l d x legal _ = Nowhere (λ z at. refl)

vain_parts : (e : Entry) (j : List Entry) (x : Request) → is_vain (e ∷ j) x ≡ true → has_cancel j x ≡ true → is_vain j x ≡ true
vain_parts e j x h old =
    let parts = and_parts (has_cancel (e ∷ j) x) _ h in let more = and_parts (is_pending (e ∷ j) x) _ parts.1 in
    let free = en.granted_before e j x.attempt.action (not_true _ more.1) in
    and_from _ _ old (and_from _ _ (q.pending_before e j x more.0) (rw free refl))

send_cancels_none : (x : Request) (y : Reply) (z : Request) → send_in y ≡ Some z → cancels x y ≡ false
send_cancels_none x (reply.Send l n a b t) z h = refl
send_cancels_none x _ z h = absurd (cc)

pub none_vain : (p : Plan) (j : List Entry) (l m : ℕ) (t : Attempt) → Lawful p j → launch_of j l ≡ Some (m, t) → EachRequest (λ x. is_vain j x ≡ false) (sends j l)
unfolding launch_of Won
none_vain p [] l m t legal h = absurd (cc)
none_vain p (e ∷ j) l m t legal h = by (q.launch_cases p e j l m t h) (λ y. none_vain p j l m t legal.0 y)
  where
    quiet_one : ((z : Request) → z.line ≡ l → cancels z e.reply ≡ false) → (x : Request) → x.line ≡ l → is_vain j x ≡ false → is_vain (e ∷ j) x ≡ false
    quiet_one none x line was = false_by _ (λ vain. elim (cancel_cases e j x (and_parts (has_cancel (e ∷ j) x) _ vain).0) [
      | inl now ↦ clash _ now (none x line)
      | inr old ↦ clash _ (vain_parts e j x vain old) was
    ])

    quiet_all : ((z : Request) → z.line ≡ l → cancels z e.reply ≡ false) → (xs : List Request) → AllOf (k.IsSentOn j l) xs → EachRequest (λ x. is_vain j x ≡ false) xs → EachRequest (λ x. is_vain (e ∷ j) x ≡ false) xs
    quiet_all none [] on all = tt
    quiet_all none (x ∷ xs) on all = (quiet_one none x on.0.line all.0, quiet_all none xs on.1 all.1)

    won_one : (y : Request) → e.reply ≡ reply.Cancel y.line y.number → (x : Request) → (is_pending j x && (int_eq y.number x.number && not (granted j x.attempt.action))) ≡ false → is_vain j x ≡ false → is_vain (e ∷ j) x ≡ false
    won_one y is x won was = false_by _ (λ vain.
        let parts = and_parts (has_cancel (e ∷ j) x) _ vain in let more = and_parts (is_pending (e ∷ j) x) _ parts.1 in
        let free = en.granted_before e j x.attempt.action (not_true _ more.1) in
        elim (cancel_cases e j x parts.0) [
          | inl now ↦ (let named : cancels x (reply.Cancel y.line y.number) ≡ true = subst (λ (z : Reply). cancels x z ≡ true) is now in
              clash _ (and_from _ _ (q.pending_before e j x more.0) (and_from _ _ (and_parts (y.line == x.line) _ named).1 (rw free refl))) won)
          | inr old ↦ clash _ (vain_parts e j x vain old) was
        ])

    won_all : (y : Request) → e.reply ≡ reply.Cancel y.line y.number → (xs : List Request) → EachRequest (λ x. (is_pending j x && (int_eq y.number x.number && not (granted j x.attempt.action))) ≡ false) xs → EachRequest (λ x. is_vain j x ≡ false) xs → EachRequest (λ x. is_vain (e ∷ j) x ≡ false) xs
    won_all y is [] won all = tt
    won_all y is (x ∷ xs) won all = (won_one y is x won.0 all.0, won_all y is xs won.1 all.1)

    old_ones : CancelsAt p j l e.reply → EachRequest (λ x. is_vain j x ≡ false) (sends j l) → EachRequest (λ x. is_vain (e ∷ j) x ≡ false) (sends j l)
    old_ones (Nowhere none) all = quiet_all none (sends j l) (k.sends_on j l (begin_in_order p j legal.0)) all
    old_ones (Here w y own which is) all = won_all y is (sends j l) (named_won p j w l y legal.0 own which) all

    new_one : (x : Request) → send_in e.reply ≡ Some x → is_vain (e ∷ j) x ≡ false
    new_one x is = false_by _ (λ vain. elim (cancel_cases e j x (and_parts (has_cancel (e ∷ j) x) _ vain).0) [
      | inl now ↦ clash _ now (send_cancels_none x e.reply x is)
      | inr old ↦ clash _ (cancel_sent j x old) (of.fresh_send p e j x legal is).unsent
    ])

    more : (o : Option Request) → sent_on l e.reply ≡ o → EachRequest (λ x. is_vain j x ≡ false) (sends j l) → EachRequest (λ x. is_vain (e ∷ j) x ≡ false) (sends (e ∷ j) l)
    more None is all = subst (EachRequest (λ x. is_vain (e ∷ j) x ≡ false)) (sym (q.sends_same e j l is)) (old_ones (cancels_at p j e.lane l e.call e.reply legal.0 (v.entry_ruled p e j legal)) all)
    more (Some x) is all =
        let s = q.sent_on_is l e.reply x is in
        subst (EachRequest (λ z. is_vain (e ∷ j) z ≡ false)) (sym (q.sends_grow e j l x is))
        (new_one x s.0, old_ones (cancels_at p j e.lane l e.call e.reply legal.0 (v.entry_ruled p e j legal)) all)

    by : q.Launches p e j l m t → (launch_of j l ≡ Some (m, t) → EachRequest (λ x. is_vain j x ≡ false) (sends j l)) → EachRequest (λ x. is_vain (e ∷ j) x ≡ false) (sends (e ∷ j) l)
    by (q.Now is lane) ih = subst (EachRequest (λ x. is_vain (e ∷ j) x ≡ false)) (sym (q.new_line_unsent p e j l t legal is)) tt
    by (q.Before at) ih = more (sent_on l e.reply) refl (ih at)

-- an answer that says cancelled is never Matched
pub matched_uncancelled : (p : Plan) (e : Entry) (j : List Entry) (l : ℕ) (x : Answer) (t : Attempt) → Lawful p (e ∷ j) → e.call ≡ call.Answer l x → matched_in e.reply ≡ Some t → x.cancelled ≡ false
matched_uncancelled p e j l x t legal ic is = of_ruled e.call e.reply (v.entry_ruled p e j legal) ic is (lines_named p (e ∷ j) legal).1.called
  where
    by_test : (a b : Bool) → (a && not b) ≡ false → b ≡ false → a ≡ false
    by_test true true h g = absurd (cc)
    by_test true false h g = absurd (cc)
    by_test false b h g = refl

    all_of : (P : Request → Type 0) (xs : List Request) → EachRequest P xs → AllOf P xs
    all_of P [] all = tt
    all_of P (y ∷ ys) all = (all.0, all_of P ys all.1)

    of_ruled : (d : Call) (z : Reply) → u.Ruled p j e.lane d z → d ≡ call.Answer l x → matched_in z ≡ Some t → OfBerth j (call_line d) (e.lane / 2) → x.cancelled ≡ false
    of_ruled d z (u.IsMatched m a y asked free) dc h own =
        let m_is : m ≡ l = cc in
        let a_is : a ≡ x = cc in
        let vain = v.of_request p j m a y (λ w. is_vain j w ≡ false) asked (all_of (λ w. is_vain j w ≡ false) (sends j m) (none_vain p j m own.owner.0 own.owner.1 legal.0 own.owner.2)) in
        let uncancelled : has_cancel j y ≡ false = false_by _ (λ yes_so. clash _ (and_from _ _ yes_so (and_from _ _ asked.is_open (rw free refl))) vain) in
        subst (λ (b : Answer). b.cancelled ≡ false) a_is (by_test a.cancelled (has_cancel j y) asked.allowed uncancelled)
    of_ruled d z (u.KillsBroken m y here run broken over) dc h own = absurd (cc)
    of_ruled d z (u.Notes w n) dc h own = absurd (cc)
    of_ruled d z _ dc h own = absurd (cc)
