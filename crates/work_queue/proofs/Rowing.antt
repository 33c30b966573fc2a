-- The rows of a queue, and its state.
use Rattle.std.proofs.Common.{◌≡◌, ℕ, ℤ, suc, ◌+◌, ◌≤◌, ◌==◌, Bool, true, false, cond, not}
use Rattle.std.proofs.Common.{List, [], ◌∷◌, ◌++◌, drop, length, map, Option, Some, None}
use Rattle.std.proofs.Common.{refl, ap, sym, ◌∙◌, append-nil, arith}
use Rattle.std.specs.Prelude.{nat_lt}
use Rattle.std.specs.List.{position, position_or_len, remove}
use Rattle.std.proofs.lemmas.List.{map-append, take_all, drop_all}
use Rattle.std.proofs.lemmas.Bool.Decides.{nat_tests}
use Rattle.work_queue.specs.declared.rows.Asked.{Asked}
use Rattle.work_queue.specs.declared.rows.Hand.{Hand}
use Rattle.work_queue.specs.Rows.{asked_marked, hand_marked, hand_of, new_asked, waiting_then}
use Rattle.work_queue.specs.Rows.{hands_then, rows_without, row_at, is_marked, HasTaken}
use Rattle.work_queue.specs.States.{State, Task, InHand, task_at, hands_without, task_marked}
use Rattle.work_queue.specs.States.{new_task, in_hand_marked, is_cancelled, heard_by, taken_by, answered_by}
use Rattle.work_queue.specs.StateLaws.{RowsAre, row_of}

-- ---- taking out of a list

abbrev or_zero : Option ℕ → ℕ
or_zero None = 0
or_zero (Some n) = n

some_if : (b : Bool) (n i : ℕ) → cond b (Some n) None ≡ Some i → (n ≡ i) × (b ≡ true)
some_if true n i e = (ap or_zero e, refl)
some_if false n i e = absurd (let x : None ≡ Some i = e in cc)

none_if : (b : Bool) (n : ℕ) → cond b (Some n) None ≡ None → b ≡ false
none_if true n e = absurd (let x : Some n ≡ None = e in cc)
none_if false n e = refl

one_add : (n : ℕ) → 1 + n ≡ suc n
one_add n = omega arith

module _ (lane : ℕ) where
  abbrev IsOf : Hand → Bool
  IsOf h = h.lane == lane

  cut_step : (b : Bool) (h : Hand) (hs : List Hand) (n : ℕ)
      → remove hs n ≡ rows_without lane hs
      → remove (h ∷ hs) (cond (not b) (1 + n) 0) ≡ cond b hs (h ∷ rows_without lane hs)
  cut_step true h hs n e = refl
  cut_step false h hs n e =
      ap (λ k. remove (h ∷ hs) k) (one_add n) ∙ ap (λ (ys : List Hand). h ∷ ys) e

  cut_at : (hs : List Hand) → remove hs (position_or_len IsOf hs) ≡ rows_without lane hs
  cut_at [] = refl
  cut_at (h ∷ hs) = cut_step (h.lane == lane) h hs (position_or_len IsOf hs) (cut_at hs)

  pub cut_some : (hs : List Hand) (i : ℕ) → position IsOf hs ≡ Some i
      → remove hs i ≡ rows_without lane hs
  cut_some hs i e =
      let is = (some_if (nat_lt (position_or_len IsOf hs) (length hs)) (position_or_len IsOf hs) i
      e).0 in
      ap (λ k. remove hs k) (sym is) ∙ cut_at hs

  pub cut_none : (hs : List Hand) → position IsOf hs ≡ None → hs ≡ rows_without lane hs
  cut_none hs e =
      let n = position_or_len IsOf hs in
      let not_below = none_if (nat_lt n (length hs)) n e in
      let all : length hs ≤ n = grind (arith, nat_tests) in
      let all' : length hs ≤ suc n = omega arith in
      sym (sym (cut_at hs)
      ∙ (ap (λ (ys : List Hand). ys ++ drop (suc n) hs) (take_all n hs all)
      ∙ (ap (λ (ys : List Hand). hs ++ ys) (drop_all (suc n) hs all') ∙ append-nil hs)))

-- ---- from rows to the state

module _ {X : Type 0} (number : X → ℤ) where
  pub waiting_marked : (n : ℤ) (ts : List (Task X))
      → map (asked_marked number n) (map (λ t. t.work) ts)
      ≡ map (λ t. t.work) (map (task_marked number n) ts)
  waiting_marked n [] = refl
  waiting_marked n (t ∷ ts) =
      ap (λ (ws : List (Asked X)). asked_marked number n t.work ∷ ws) (waiting_marked n ts)

  pub hands_marked : (n : ℤ) (hs : List (InHand X))
      → map (hand_marked n) (map (row_of number) hs)
      ≡ map (row_of number) (map (in_hand_marked number n) hs)
  hands_marked n [] = refl
  hands_marked n (h ∷ hs) =
      ap (λ (ws : List Hand). hand_marked n (row_of number h) ∷ ws) (hands_marked n hs)

  without_step : (b : Bool) (lane : ℕ) (h : InHand X) (hs : List (InHand X))
      → rows_without lane (map (row_of number) hs) ≡ map (row_of number) (hands_without lane hs)
      → cond b (map (row_of number) hs)
      (row_of number h ∷ rows_without lane (map (row_of number) hs))
      ≡ map (row_of number) (cond b hs (h ∷ hands_without lane hs))
  without_step true lane h hs e = refl
  without_step false lane h hs e = ap (λ (ws : List Hand). row_of number h ∷ ws) e

  pub hands_put_down : (lane : ℕ) (hs : List (InHand X))
      → rows_without lane (map (row_of number) hs) ≡ map (row_of number) (hands_without lane hs)
  hands_put_down lane [] = refl
  hands_put_down lane (h ∷ hs) =
      without_step (h.lane == lane) lane h hs (hands_put_down lane hs)

  mark_step : (b : Bool) (lane : ℕ) (h : InHand X) (hs : List (InHand X))
      → is_marked (row_at lane (map (row_of number) hs)) ≡ is_cancelled (task_at lane hs)
      → is_marked (cond b (Some (row_of number h)) (row_at lane (map (row_of number) hs)))
      ≡ is_cancelled (cond b (Some h.task) (task_at lane hs))
  mark_step true lane h hs e = refl
  mark_step false lane h hs e = e

  pub hand_marked_so : (lane : ℕ) (hs : List (InHand X))
      → is_marked (row_at lane (map (row_of number) hs)) ≡ is_cancelled (task_at lane hs)
  hand_marked_so lane [] = refl
  hand_marked_so lane (h ∷ hs) = mark_step (h.lane == lane) lane h hs (hand_marked_so lane hs)

module _ {X : Type 0} where
  abbrev first_work : Asked X → List (Asked X) → Asked X
  first_work other [] = other
  first_work other (w ∷ ws) = w

  abbrev others : List (Asked X) → List (Asked X)
  others [] = []
  others (w ∷ ws) = ws

  some_empty : (w : Asked X) (ws : List (Asked X)) → w ∷ ws ≡ [] → ⊥
  some_empty w ws e = cc

  empty_some : (w : Asked X) (ws : List (Asked X)) → [] ≡ w ∷ ws → ⊥
  empty_some w ws e = cc

  pub none_waits : (ts : List (Task X)) → map (λ t. t.work) ts ≡ [] → ts ≡ []
  none_waits [] e = refl
  none_waits (t ∷ ts) e = absurd (some_empty t.work (map (λ t. t.work) ts) e)

module _ {X Y : Type 0} (number : X → ℤ) (cancels : X → Bool) where
  heard_rows : (s : State X Y) (m : X) (b : Bool) (ws : List (Asked X)) (hs : List Hand)
      → RowsAre number s ws hs
      → RowsAre number (heard_by number cancels s m b)
      (cond b (map (asked_marked number (number m)) ws) (ws ++ new_asked number m ∷ []))
      (cond b (map (hand_marked (number m)) hs) hs)
  heard_rows s m true ws hs r = (
    ap (λ (xs : List (Asked X)). map (asked_marked number (number m)) xs) r.0
        ∙ waiting_marked number (number m) s.waiting,
    ap (λ (xs : List Hand). map (hand_marked (number m)) xs) r.1
        ∙ hands_marked number (number m) s.hands,
  )
  heard_rows s m false ws hs r = (
    ap (λ (xs : List (Asked X)). xs ++ new_asked number m ∷ []) r.0
        ∙ sym (map-append (λ (t : Task X). t.work) s.waiting
        (new_task number (length s.heard) m ∷ [])),
    r.1,
  )

  pub rows_heard : (s : State X Y) (m : X) (ws ws' : List (Asked X)) (hs hs' : List Hand)
      → RowsAre number s ws hs → ws' ≡ waiting_then number cancels m ws
      → hs' ≡ hands_then number cancels m hs
      → RowsAre number (heard_by number cancels s m (cancels m)) ws' hs'
  rows_heard s m ws ws' hs hs' r w h =
      let all = heard_rows s m (cancels m) ws hs r in (w ∙ all.0, h ∙ all.1)

  -- the first that waits, and the state once it was taken
  pub rows_taken : (lane : ℕ) (s : State X Y) (ts : List (Task X)) (w : Asked X)
      (ws ws' : List (Asked X)) (hs hs' : List Hand) → s.waiting ≡ ts
      → RowsAre number s ws hs → HasTaken number lane ws hs (Some w) ws' hs'
      → (t : Task X) × (rest : List (Task X)) × (ts ≡ t ∷ rest) × (w ≡ t.work)
      × RowsAre number (taken_by lane s ts) ws' hs'
  rows_taken lane s [] w ws ws' hs hs' is r h =
      absurd (empty_some w ws' (sym (r.0 ∙ ap (λ (ts : List (Task X)). map (λ t. t.work) ts) is)
      ∙ h.0))
  rows_taken lane s (t ∷ rest) w ws ws' hs hs' is r h =
      let both : w ∷ ws' ≡ t.work ∷ map (λ t. t.work) rest =
      sym h.0 ∙ (r.0 ∙ ap (λ (ts : List (Task X)). map (λ t. t.work) ts) is) in
      let one : w ≡ t.work = ap (first_work w) both in (
        t,
        rest,
        refl,
        one,
        (
          ap others both,
          h.1 ∙ (ap (λ (x : Asked X). hand_of number lane x ∷ hs) one
              ∙ ap (λ (xs : List Hand). hand_of number lane t.work ∷ xs) r.1),
        ),
      )

  -- ---- what was put down

  pub rows_answered : (lane : ℕ) (s : State X Y) (y : Y) (t : Task X)
      (ws : List (Asked X)) (hs hs' : List Hand) → RowsAre number s ws hs
      → hs' ≡ rows_without lane hs
      → RowsAre number (answered_by lane s y (Some t)) ws hs'
  rows_answered lane s y t ws hs hs' r h = (
    r.0,
    h ∙ (ap (λ (xs : List Hand). rows_without lane xs) r.1 ∙ hands_put_down number lane s.hands),
  )
