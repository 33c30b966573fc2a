-- The winners and their answers, entry by entry.
use Rattle.std.proofs.Common.{◌≡◌, ℕ, Bor, option_copied, ◌<◌, ◌≤◌, ◌==◌, ◌+◌, Bool, true, false, cond, List, [], ◌∷◌, length, get_or, set, reverse, Option, Some, None, option_map, ◌⊎◌, inl, inr, refl, ap, sym, subst, ◌∙◌, arith}
use Rattle.std.specs.Prelude.{slice_get}
use Rattle.std.specs.Option.{option_or}
use Rattle.std.proofs.lemmas.List.{take_all}
use Rattle.std.proofs.lemmas.Bool.{eqb-true, ne_eqb}
use Rattle.std.proofs.lemmas.Option.{slice_get-get_or, slice_get_within, get_or_from_slice_get, same_Some}
use Rattle.exec_journal.specs.declared.attempt.Attempt.{Attempt}
use Rattle.exec_journal.specs.declared.call.Answer.{Answer}
use Rattle.exec_journal.specs.declared.call.Call.{Call}
use Rattle.exec_journal.specs.declared.call.Call.TheVariants as call
use Rattle.exec_journal.specs.declared.call.Found.{Found}
use Rattle.exec_journal.specs.Entry.{Entry}
use Rattle.exec_journal.specs.declared.reply.Reply.{Reply}
use Rattle.list_lemmas.specs.Options.{unless_before}
use Rattle.exec_journal.specs.Entries.{is_for, matched_in, granted_in}
use Rattle.exec_journal.specs.Words.{of_action, grant_of, match_at, match_of}
use Rattle.exec_journal.specs.Outcomes.{winning_answer}
use Rattle.journal_ends.specs.Replay.{AllNew}
use Rattle.journal_ends.specs.Winning.{granted_at, winner_in, AreWinners, winners_after, answer_at, answer_in, AreAnswers, AreWinning, NotesAnswer, matched_action, is_at}
use Rattle.exec_journal.proofs.Ruled.{by_bool}
use Rattle.journal_lookback.specs.Lookback.{front}
use Rattle.journal_lookback.proofs.LookedBack.{front_more}
use Rattle.list_lemmas.proofs.Updates.{set-update}
use Rattle.list_lemmas.proofs.Updates.{get_update}

-- the front of all entries
pub whole_front : (es : List Entry) (i : ℕ) → length es ≤ i → front es i ≡ reverse es
whole_front es i le = ap reverse (take_all i es le)

-- ---- the winners

pub winners_start : (ws : List (Option Attempt)) → AllNew None ws → AreWinners ws []
unfolding grant_of
winners_start ws new = record { each = λ a w h. new.each a w h }

first_winner : (x : Attempt × Found) (o : Option (Attempt × Found)) → option_or (option_map (λ y. y.0) o) (Some x.0) ≡ option_map (λ y. y.0) (unless_before (Some x) o)
first_winner x None = refl
first_winner x (Some y) = refl

-- an entry that grants nothing
none_granted : (j : List Entry) (e : Entry) (a : ℕ) (o : Option (Attempt × Found)) → granted_in e.call e.reply ≡ o → option_map (λ x. x.0) o ≡ None → winner_in j a ≡ winner_in (e ∷ j) a
unfolding grant_of
none_granted j e a None is h = rw is refl
none_granted j e a (Some x) is h = absurd (cc)

pub winners_stay : (ws : List (Option Attempt)) (j : List Entry) (e : Entry) → AreWinners ws j → granted_at e ≡ None → AreWinners ws (e ∷ j)
winners_stay ws j e are none = record { each = λ a w h. are.each a w h ∙ none_granted j e a (granted_in e.call e.reply) refl none }

-- an entry that grants this attempt
module _ (ws : List (Option Attempt)) (j : List Entry) (e : Entry) (x : Attempt × Found) (are : AreWinners ws j) (is : granted_in e.call e.reply ≡ Some x) where
  granted_here : (a : ℕ) → (x.0.action == a) ≡ true → winner_in (e ∷ j) a ≡ option_or (winner_in j a) (Some x.0)
  unfolding grant_of
  granted_here a same = rw (is, same) (sym (first_winner x (grant_of j a)))

  granted_there : (a : ℕ) → (x.0.action == a) ≡ false → winner_in (e ∷ j) a ≡ winner_in j a
  unfolding grant_of
  granted_there a apart = rw (is, apart) refl

  one : (a : ℕ) (w : Option Attempt) → cond (x.0.action == a) (option_map (λ v. option_or v (Some x.0)) (slice_get ws a)) (slice_get ws a) ≡ Some w → w ≡ winner_in (e ∷ j) a
  one a w h =
      by_bool (x.0.action == a) (λ b. cond b (option_map (λ v. option_or v (Some x.0)) (slice_get ws a)) (slice_get ws a) ≡ Some w → w ≡ winner_in (e ∷ j) a)
      (λ same k. here same (slice_get ws a) refl k)
      (λ apart k. are.each a w k ∙ sym (granted_there a apart))
      h
    where
      here : (x.0.action == a) ≡ true → (o : Option (Option Attempt)) → slice_get ws a ≡ o → option_map (λ v. option_or v (Some x.0)) o ≡ Some w → w ≡ winner_in (e ∷ j) a
      here same None at k = absurd (cc)
      here same (Some v) at k =
          let is_w : option_or v (Some x.0) ≡ w = cc in
          sym is_w ∙ ap (λ u. option_or u (Some x.0)) (are.each a v at) ∙ sym (granted_here a same)

  pub winners_grow : AreWinners (winners_after ws x.0) (e ∷ j)
  winners_grow = record { each = λ a w h. one a w (sym (get_update (λ v. option_or v (Some x.0)) ws x.0.action a) ∙ h) }

by_grant : (ws ys : List (Option Attempt)) (j : List Entry) (e : Entry) (t : Attempt) (o : Option (Attempt × Found)) → AreWinners ws j → granted_in e.call e.reply ≡ o → option_map (λ x. x.0) o ≡ Some t → ys ≡ winners_after ws t → AreWinners ys (e ∷ j)
by_grant ws ys j e t None are is h new = absurd (cc)
by_grant ws ys j e t (Some x) are is h new =
    let same : x.0 ≡ t = cc in
    subst (λ zs. AreWinners zs (e ∷ j)) (ap (winners_after ws) same ∙ sym new) (winners_grow ws j e x are is)

pub winners_more : (ws ys : List (Option Attempt)) (j : List Entry) (e : Entry) (t : Attempt) → AreWinners ws j → granted_at e ≡ Some t → ys ≡ winners_after ws t → AreWinners ys (e ∷ j)
winners_more ws ys j e t are is new = by_grant ws ys j e t (granted_in e.call e.reply) are refl is new

-- the attempt of an action's grant is one of the action
of_its_action : (j : List Entry) (a : ℕ) (t : Attempt) → winner_in j a ≡ Some t → t.action ≡ a
unfolding grant_of
of_its_action [] a t h = absurd (cc)
of_its_action (e ∷ j) a t h = by_new (of_action a (granted_in e.call e.reply)) refl (grant_of j a) refl h (of_its_action j a t)
  where
    own : (o : Option (Attempt × Found)) (x : Attempt × Found) → of_action a o ≡ Some x → x.0.action ≡ a
    own None x k = absurd (cc)
    own (Some y) x k =
        by_bool (y.0.action == a) (λ b. cond b (Some y) None ≡ Some x → x.0.action ≡ a)
        (λ same m. let e : y ≡ x = cc in subst (λ (z : Attempt × Found). z.0.action ≡ a) e (eqb-true y.0.action a same))
        (λ apart m. absurd (cc))
        k

    by_new : (n : Option (Attempt × Found)) → of_action a (granted_in e.call e.reply) ≡ n → (o : Option (Attempt × Found)) → grant_of j a ≡ o → option_map (λ x. x.0) (unless_before n o) ≡ Some t → (winner_in j a ≡ Some t → t.action ≡ a) → t.action ≡ a
    by_new None is o at k before = before (ap (option_map (λ x. x.0)) at ∙ k)
    by_new (Some x) is None at k before = let s : x.0 ≡ t = cc in subst (λ (u : Attempt). u.action ≡ a) s (own (granted_in e.call e.reply) x is)
    by_new (Some x) is (Some y) at k before = before (ap (option_map (λ z. z.0)) at ∙ k)

-- at an entry of the list
pub next_front : (es : List Entry) (i : ℕ) (e : Entry) → i < length es → e ≡ get_or es i e → front es (i + 1) ≡ e ∷ front es i
next_front es i e lt is = front_more es i e lt ∙ ap (λ (y : Entry). y ∷ front es i) (sym is)

-- ---- their answers

pub answers_start : {R : Type 0} (held : R → Option Answer) (new : R) (xs : List R) (ws : List (Option Attempt)) → held new ≡ None → AllNew new xs → AreAnswers held xs ws []
unfolding match_of
answers_start held new xs ws none all = record { each = λ a x w h k. ap held (all.each a x h) ∙ none ∙ at_first w }
  where
    at_first : (w : Option Attempt) → None ≡ answer_in [] w
    at_first None = refl
    at_first (Some t) = refl

answer_more : (j : List Entry) (e : Entry) (w : Option Attempt) → answer_in (e ∷ j) w ≡ option_or (answer_in j w) (answer_at w e)
unfolding match_of
answer_more j e None = refl
answer_more j e (Some t) = by (match_at t e.call e.reply) (match_of j t)
  where
    by : (n o : Option Answer) → unless_before n o ≡ option_or o n
    by None None = refl
    by None (Some y) = refl
    by (Some x) None = refl
    by (Some x) (Some y) = refl

-- an entry that matches nothing of the action
no_match : (e : Entry) (a : ℕ) (t : Attempt) (m : Option Attempt) → t.action ≡ a → matched_in e.reply ≡ m → is_at (option_map (λ s. s.action) m) a ≡ false → is_for t m ≡ false
no_match e a t None own is apart = refl
no_match e a t (Some s) own is apart =
    let off : (s.action == t.action) ≡ false = subst (λ n. (s.action == n) ≡ false) (sym own) apart in
    rw off refl

no_answer : (t : Attempt) (c : Call) (r : Reply) → is_for t (matched_in r) ≡ false → match_at t c r ≡ None
no_answer t (call.Answer l x) r h = rw h refl
no_answer t _ r h = refl

aside_at : (j : List Entry) (e : Entry) (a : ℕ) (w : Option Attempt) → w ≡ winner_in j a → is_at (matched_action e.reply) a ≡ false → answer_at w e ≡ None
aside_at j e a None own apart = refl
aside_at j e a (Some t) own apart = no_answer t e.call e.reply (no_match e a t (matched_in e.reply) (of_its_action j a t (sym own)) refl apart)

or_none : {X : Type 0} (o : Option X) → option_or o None ≡ o
or_none None = refl
or_none (Some x) = refl

-- all = the whole journal: the winners are those of the end
pub answers_more : {R : Type 0} (held : R → Option Answer) (xs ys : List R) (ws : List (Option Attempt)) (all j : List Entry) (e : Entry) → AreWinners ws all → AreAnswers held xs ws j → NotesAnswer held xs ys ws e → AreAnswers held ys ws (e ∷ j)
answers_more {R} held xs ys ws all j e won are notes = record { each = one }
  where
    one : (a : ℕ) (y : R) (w : Option Attempt) → slice_get ys a ≡ Some y → slice_get ws a ≡ Some w → held y ≡ answer_in (e ∷ j) w
    one a y w h k =
        let old = notes.there a y h in
        notes.here a old.0 y w old.1 h k
        ∙ by_bool (is_at (matched_action e.reply) a) (λ b. cond b (option_or (held old.0) (answer_at w e)) (held old.0) ≡ option_or (held old.0) (answer_at w e))
        (λ at. refl)
        (λ apart. sym (ap (option_or (held old.0)) (aside_at all e a w (won.each a w k) apart) ∙ or_none (held old.0)))
        ∙ ap (λ o. option_or o (answer_at w e)) (are.each a old.0 w old.1 k)
        ∙ sym (answer_more j e w)

pub copied_or : {X : Type 0} (a b : Option (Bor X)) → option_copied (option_or a b) ≡ option_or (option_copied a) (option_copied b)
copied_or None b = refl
copied_or (Some x) b = refl

-- the answer is noted at one place
module _ {R : Type 0} (held : R → Option Answer) (xs : List R) (ws : List (Option Attempt)) (e : Entry) (k : ℕ) (d r : R) (v : Option Attempt) (at : matched_action e.reply ≡ Some k) (in_xs : k < length xs) (in_ws : k < length ws) (read : d ≡ get_or xs k d) (winner : slice_get ws k ≡ Some v) (is : held r ≡ option_or (held d) (answer_at v e)) where
  there_by : (a : ℕ) (y : R) (b : Bool) (o : Option R) → slice_get xs a ≡ o → cond b (option_map (λ _. r) o) o ≡ Some y → (x : R) × (slice_get xs a ≡ Some x)
  there_by a y b (Some x) h k2 = (x, h)
  there_by a y true None h k2 = absurd (cc)
  there_by a y false None h k2 = absurd (cc)

  here_at : (a : ℕ) (x y : R) (w : Option Attempt) → (k == a) ≡ true → slice_get xs a ≡ Some x → slice_get ws a ≡ Some w → option_map (λ _. r) (slice_get xs a) ≡ Some y → held y ≡ option_or (held x) (answer_at w e)
  here_at a x y w same h g m =
      let ka : k ≡ a = eqb-true k a same in
      let y_is : r ≡ y = same_Some r y (ap (option_map (λ _. r)) (sym h) ∙ m) in
      let x_is : d ≡ x = read ∙ get_or_from_slice_get xs k x d (subst (λ n. slice_get xs n ≡ Some x) (sym ka) h) in
      let w_is : v ≡ w = same_Some v w (sym winner ∙ subst (λ n. slice_get ws n ≡ Some w) (sym ka) g) in
      ap held (sym y_is) ∙ is ∙ ap (λ z. option_or (held z) (answer_at v e)) x_is ∙ ap (λ z. option_or (held x) (answer_at z e)) w_is

  pub noted : NotesAnswer held xs (set xs k r) ws e
  noted = record {
    here = λ a x y w h g m. here a x y w h (sym (get_update (λ _. r) xs k a) ∙ ap (λ zs. slice_get zs a) (sym (set-update (λ _. r) xs k d in_xs)) ∙ g) m;
    there = λ a y g. there_by a y (k == a) (slice_get xs a) refl (sym (get_update (λ _. r) xs k a) ∙ ap (λ zs. slice_get zs a) (sym (set-update (λ _. r) xs k d in_xs)) ∙ g);
  }
    where
      here : (a : ℕ) (x y : R) (w : Option Attempt) → slice_get xs a ≡ Some x → cond (k == a) (option_map (λ _. r) (slice_get xs a)) (slice_get xs a) ≡ Some y → slice_get ws a ≡ Some w
          → held y ≡ cond (is_at (matched_action e.reply) a) (option_or (held x) (answer_at w e)) (held x)
      here a x y w h g m =
          by_bool (k == a) (λ b. cond b (option_map (λ _. r) (slice_get xs a)) (slice_get xs a) ≡ Some y → held y ≡ cond b (option_or (held x) (answer_at w e)) (held x))
          (λ same n. here_at a x y w same h m n)
          (λ apart n. ap held (same_Some y x (sym n ∙ h)))
          g
          ∙ ap (λ o. cond (is_at o a) (option_or (held x) (answer_at w e)) (held x)) (sym at)

-- no action of the lists is matched
pub none_noted : {R : Type 0} (held : R → Option Answer) (xs : List R) (ws : List (Option Attempt)) (e : Entry) → ((a : ℕ) (x : R) (w : Option Attempt) → slice_get xs a ≡ Some x → slice_get ws a ≡ Some w → is_at (matched_action e.reply) a ≡ false) → NotesAnswer held xs xs ws e
none_noted held xs ws e off = record {
  here = λ a x y w h g m. ap held (same_Some y x (sym g ∙ h)) ∙ ap (λ b. cond b (option_or (held x) (answer_at w e)) (held x)) (sym (off a x w h m));
  there = λ a y g. (y, g);
}

-- past one of the lists
pub off_lists : {R : Type 0} (xs : List R) (ws : List (Option Attempt)) (e : Entry) (k : ℕ) → matched_action e.reply ≡ Some k → (length xs ≤ k) ⊎ (length ws ≤ k)
    → (a : ℕ) (x : R) (w : Option Attempt) → slice_get xs a ≡ Some x → slice_get ws a ≡ Some w → is_at (matched_action e.reply) a ≡ false
off_lists xs ws e k at past a x w h g =
    ap (λ o. is_at o a) at ∙ ne_eqb k a (λ same. elim past [
      | inl le ↦ (let lt = slice_get_within xs a x h in omega (arith, same))
      | inr le ↦ (let lt = slice_get_within ws a w g in omega (arith, same))
    ])

-- ---- in the end

same_answer : (j : List Entry) (o : Option (Attempt × Found)) → answer_in j (option_map (λ x. x.0) o) ≡ winning_answer j o
same_answer j None = refl
same_answer j (Some x) = refl

pub all_winning : {R : Type 0} (held : R → Option Answer) (xs : List R) (ws : List (Option Attempt)) (j : List Entry) → length xs ≡ length ws → AreWinners ws j → AreAnswers held xs ws j → AreWinning held xs j
all_winning held xs ws j same won are = record {
  each = λ a x h. (let lt = slice_get_within xs a x h in let w = slice_get-get_or ws a None (omega (arith, same)) in
      are.each a x (get_or ws a None) h w ∙ ap (answer_in j) (won.each a (get_or ws a None) w) ∙ same_answer j (grant_of j a));
}
