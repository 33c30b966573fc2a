-- The orders for the attempts that are meant and the answers to them, entry by entry.
use Rattle.std.proofs.Common.{◌≡◌, ℕ, Bor, option_copied, ◌<◌, ◌≤◌, ◌==◌, ◌&&◌, Bool, true, false, cond, List, [], ◌∷◌, length, get_or, set, Option, Some, None, option_map, refl, ap, sym, subst, ◌∙◌, arith}
use Rattle.std.specs.Prelude.{slice_get}
use Rattle.std.specs.Option.{option_or}
use Rattle.std.proofs.lemmas.Bool.{eqb-true, ne_eqb}
use Rattle.std.proofs.lemmas.Option.{slice_get_within, get_or_from_slice_get, same_Some}
use Rattle.exec_journal.specs.declared.attempt.Attempt.{Attempt}
use Rattle.exec_journal.specs.declared.call.Answer.{Answer}
use Rattle.exec_journal.specs.declared.call.Call.{Call}
use Rattle.exec_journal.specs.declared.call.Call.TheVariants as call
use Rattle.exec_journal.specs.declared.reply.Reply.{Reply}
use Rattle.exec_journal.specs.declared.reply.Reply.TheVariants as reply
use Rattle.exec_journal.specs.Entry.{Entry}
use Rattle.exec_journal.specs.Entries.{is_for, matched_in, same_branch}
use Rattle.exec_journal.specs.Words.{match_at, match_of}
use Rattle.exec_journal.specs.Attempts.{carrier_in}
use Rattle.exec_journal.proofs.Ruled.{by_bool}
use Rattle.list_lemmas.specs.Options.{or_else, unless_before}
use Rattle.list_lemmas.specs.Places.{update}
use Rattle.list_lemmas.proofs.Updates.{get_update, set-update}
use Rattle.journal_ends.specs.Replay.{AllNew}
use Rattle.branch_losses.specs.declared.attempts.Nth.{Nth}
use Rattle.branch_losses.specs.declared.attempts.Order.{Order}
use Rattle.branch_losses.specs.declared.attempts.Given.{Given}
use Rattle.branch_losses.specs.Last.{AreAnswers, AreOrders, NotesAnswer, answer_for, answer_in, given_by, given_in, given_of, matched_action, nth_of, order_of, with_lane}

-- ---- orders

abbrev at_action : ℕ → Option Given → Option Order
at_action a (Some x) = cond (x.action == a) (Some x.order) None
at_action a None = None

both : (lane l : ℕ) (p c : Bool) → option_map (with_lane lane) (cond (p && c) (Some l) None) ≡ cond c (cond p (Some (with_lane lane l)) None) None
both lane l true true = refl
both lane l true false = refl
both lane l false true = refl
both lane l false false = refl

spread : (a : ℕ) (x : Given) (c : Bool) → at_action a (cond c (Some x) None) ≡ cond c (cond (x.action == a) (Some x.order) None) None
spread a x true = refl
spread a x false = refl

-- what a reply to this lane says of the action's attempt
gives : (n : Nth) (lane a : ℕ) (r : Reply) → option_map (with_lane lane) (carrier_in (nth_of n a) r) ≡ at_action a (given_of n lane r)
gives n lane a (reply.Launch l k b t) = both lane l (k == a) (same_branch b n.branch && (t == n.number)) ∙ sym (spread a (given_by lane k l) (same_branch b n.branch && (t == n.number)))
gives n lane a (reply.Send l m k b t) = both lane l (k == a) (same_branch b n.branch && (t == n.number)) ∙ sym (spread a (given_by lane k l) (same_branch b n.branch && (t == n.number)))
gives n lane a _ = refl

pub orders_start : (n : Nth) (os : List (Option Order)) → AllNew None os → AreOrders n os []
unfolding order_of
orders_start n os new = record { each = λ a o h. new.each a o h }

order_more : (n : Nth) (j : List Entry) (e : Entry) (a : ℕ) → order_of (e ∷ j) (nth_of n a) ≡ or_else (at_action a (given_in n e)) (order_of j (nth_of n a))
unfolding order_of
order_more n j e a = ap (λ o. or_else o (order_of j (nth_of n a))) (gives n e.lane a e.reply)

pub orders_stay : (n : Nth) (os : List (Option Order)) (j : List Entry) (e : Entry) → AreOrders n os j → given_in n e ≡ None → AreOrders n os (e ∷ j)
orders_stay n os j e are none = record { each = λ a o h. are.each a o h ∙ sym (order_more n j e a ∙ ap (λ c. or_else (at_action a c) (order_of j (nth_of n a))) none) }

pub orders_more : (n : Nth) (os ys : List (Option Order)) (j : List Entry) (e : Entry) (x : Given) → AreOrders n os j → given_in n e ≡ Some x → ys ≡ update (λ _. Some x.order) os x.action → AreOrders n ys (e ∷ j)
orders_more n os ys j e x are is new = record {
  each = λ a o h. one a o (sym (get_update (λ _. Some x.order) os x.action a) ∙ ap (λ zs. slice_get zs a) (sym new) ∙ h)
      ∙ sym (order_more n j e a ∙ ap (λ c. or_else (at_action a c) (order_of j (nth_of n a))) is);
}
  where
    here : (o : Option Order) (v : Option (Option Order)) → option_map (λ _. Some x.order) v ≡ Some o → o ≡ Some x.order
    here o (Some v) h = cc
    here o None h = absurd (cc)

    one : (a : ℕ) (o : Option Order) → cond (x.action == a) (option_map (λ _. Some x.order) (slice_get os a)) (slice_get os a) ≡ Some o → o ≡ or_else (cond (x.action == a) (Some x.order) None) (order_of j (nth_of n a))
    one a o h =
        by_bool (x.action == a) (λ b. cond b (option_map (λ _. Some x.order) (slice_get os a)) (slice_get os a) ≡ Some o → o ≡ or_else (cond b (Some x.order) None) (order_of j (nth_of n a)))
        (λ same g. here o (slice_get os a) g)
        (λ apart g. are.each a o g)
        h

-- ---- answers

split : (a k : ℕ) (c : Bool) (x : Answer) → cond ((k == a) && c) (Some x) None ≡ answer_for a (cond c (Some k) None) (Some x)
split a k true x = by (k == a)
  where
    by : (p : Bool) → cond (p && true) (Some x) None ≡ cond p (Some x) None
    by true = refl
    by false = refl
split a k false x = by (k == a)
  where
    by : (p : Bool) → cond (p && false) (Some x) None ≡ None
    by true = refl
    by false = refl

no_call : (a : ℕ) (o : Option ℕ) → None ≡ answer_for a o None
no_call a None = refl
no_call a (Some k) = by (k == a)
  where
    by : (p : Bool) → ◌≡◌ {A = Option Answer} None (cond p None None)
    by true = refl
    by false = refl

-- what an entry says of the action's attempt
matches : (n : Nth) (a : ℕ) (c : Call) (r : Reply) → match_at (nth_of n a) c r ≡ answer_for a (matched_action n r) (answer_in c)
matches n a (call.Answer l x) (reply.Matched k b t) = split a k (same_branch b n.branch && (t == n.number)) x
matches n a (call.Answer l x) _ = refl
matches n a _ r = no_call a (matched_action n r)

answer_more : (n : Nth) (j : List Entry) (e : Entry) (a : ℕ) → match_of (e ∷ j) (nth_of n a) ≡ option_or (match_of j (nth_of n a)) (answer_for a (matched_action n e.reply) (answer_in e.call))
unfolding match_of
answer_more n j e a = by (match_at (nth_of n a) e.call e.reply) (match_of j (nth_of n a)) ∙ ap (option_or (match_of j (nth_of n a))) (matches n a e.call e.reply)
  where
    by : (x o : Option Answer) → unless_before x o ≡ option_or o x
    by None None = refl
    by None (Some y) = refl
    by (Some x) None = refl
    by (Some x) (Some y) = refl

pub answers_start : {R : Type 0} (n : Nth) (held : R → Option Answer) (new : R) (xs : List R) → held new ≡ None → AllNew new xs → AreAnswers n held xs []
unfolding match_of
answers_start n held new xs none all = record { each = λ a x h. ap held (all.each a x h) ∙ none }

pub answers_more : {R : Type 0} (n : Nth) (held : R → Option Answer) (xs ys : List R) (j : List Entry) (e : Entry) → AreAnswers n held xs j → NotesAnswer n held xs ys e → AreAnswers n held ys (e ∷ j)
answers_more {R} n held xs ys j e are notes = record {
  each = λ a y h. (let old = notes.there a y h in
      notes.here a old.0 y old.1 h
      ∙ ap (λ o. option_or o (answer_for a (matched_action n e.reply) (answer_in e.call))) (are.each a old.0 old.1)
      ∙ sym (answer_more n j e a));
}

pub copied_or : {X : Type 0} (a b : Option (Bor X)) → option_copied (option_or a b) ≡ option_or (option_copied a) (option_copied b)
copied_or None b = refl
copied_or (Some x) b = refl

or_none : {X : Type 0} (o : Option X) → option_or o None ≡ o
or_none None = refl
or_none (Some x) = refl

-- the answer is noted at one place
module _ {R : Type 0} (n : Nth) (held : R → Option Answer) (xs : List R) (e : Entry) (k : ℕ) (d r : R) (at : matched_action n e.reply ≡ Some k) (in_xs : k < length xs) (read : d ≡ get_or xs k d) (is : held r ≡ option_or (held d) (answer_in e.call)) where
  here : (a : ℕ) (x y : R) → slice_get xs a ≡ Some x → cond (k == a) (option_map (λ _. r) (slice_get xs a)) (slice_get xs a) ≡ Some y → held y ≡ option_or (held x) (cond (k == a) (answer_in e.call) None)
  here a x y h g =
      by_bool (k == a) (λ b. cond b (option_map (λ _. r) (slice_get xs a)) (slice_get xs a) ≡ Some y → held y ≡ option_or (held x) (cond b (answer_in e.call) None))
      (λ same m. (let ka : k ≡ a = eqb-true k a same in
      let y_is : r ≡ y = same_Some r y (ap (option_map (λ _. r)) (sym h) ∙ m) in
      let x_is : d ≡ x = read ∙ get_or_from_slice_get xs k x d (subst (λ i. slice_get xs i ≡ Some x) (sym ka) h) in
      ap held (sym y_is) ∙ is ∙ ap (λ z. option_or (held z) (answer_in e.call)) x_is))
      (λ apart m. ap held (same_Some y x (sym m ∙ h)) ∙ sym (or_none (held x)))
      g

  there_by : (a : ℕ) (y : R) (b : Bool) (o : Option R) → slice_get xs a ≡ o → cond b (option_map (λ _. r) o) o ≡ Some y → (x : R) × (slice_get xs a ≡ Some x)
  there_by a y b (Some x) h g = (x, h)
  there_by a y true None h g = absurd (cc)
  there_by a y false None h g = absurd (cc)

  at_place : (a : ℕ) (o : Option R) → slice_get (set xs k r) a ≡ o → cond (k == a) (option_map (λ _. r) (slice_get xs a)) (slice_get xs a) ≡ o
  at_place a o h = sym (get_update (λ _. r) xs k a) ∙ ap (λ zs. slice_get zs a) (sym (set-update (λ _. r) xs k d in_xs)) ∙ h

  pub noted : NotesAnswer n held xs (set xs k r) e
  noted = record {
    there = λ a y g. there_by a y (k == a) (slice_get xs a) refl (at_place a (Some y) g);
    here = λ a x y h g. here a x y h (at_place a (Some y) g) ∙ ap (λ o. option_or (held x) (answer_for a o (answer_in e.call))) (sym at);
  }

-- nothing is matched, or nothing that has a place
pub none_noted : {R : Type 0} (n : Nth) (held : R → Option Answer) (xs : List R) (e : Entry) → matched_action n e.reply ≡ None → NotesAnswer n held xs xs e
none_noted n held xs e none = record {
  there = λ a y g. (y, g);
  here = λ a x y h g. ap held (same_Some y x (sym g ∙ h)) ∙ sym (ap (λ o. option_or (held x) (answer_for a o (answer_in e.call))) none ∙ or_none (held x));
}

pub past_noted : {R : Type 0} (n : Nth) (held : R → Option Answer) (xs : List R) (e : Entry) (k : ℕ) → matched_action n e.reply ≡ Some k → length xs ≤ k → NotesAnswer n held xs xs e
past_noted n held xs e k at past = record {
  there = λ a y g. (y, g);
  here = λ a x y h g. ap held (same_Some y x (sym g ∙ h))
      ∙ sym (ap (λ o. option_or (held x) (answer_for a o (answer_in e.call))) at
      ∙ ap (λ b. option_or (held x) (cond b (answer_in e.call) None)) (ne_eqb k a (λ same. (let lt = slice_get_within xs a x h in omega (arith, same))))
      ∙ or_none (held x));
}
