-- What is noted stays right, or is right at first.
use Rattle.std.proofs.Common.{◌≡◌, ℕ, zero, suc, ◌+◌, ◌<◌, ◌≢◌, ◌==◌, Bool, true, false, ◌||◌, cond, List, [], ◌∷◌, take, length, get_or, Some, None, unwrap_or, inl, inr, refl, ap, sym, subst, ◌∙◌, arith}
use Rattle.std.specs.Prelude.{slice_get, replicate, option_and_then}
use Rattle.std.proofs.lemmas.Bool.{lt-ltb, cases_eq, or_left, or_right, or_parts, eq-eqb, ne_eqb, eqb-false}
use Rattle.std.proofs.lemmas.List.{length-replicate}
use Rattle.std.proofs.lemmas.Option.{slice_get_within, get_or_from_slice_get, unwrap_or-slice_get}
use Rattle.std.proofs.lemmas.List.Folds.{list_any_more}
use Rattle.exec_journal.proofs.Ruled.{by_bool}
use Rattle.list_lemmas.proofs.Updates.{get_replicate}
use Rattle.ready_order.specs.declared.winner_tree.TheConstants.{ABSENT}
use Rattle.ready_order.specs.declared.ActionState.{ActionState}
use Rattle.ready_order.specs.Facts.{Facts}
use Rattle.ready_order.specs.Board.{AreKnown, Fits, RightAt, SameOf, Shape, is_in, names, supplied_by}

pub same_right : (states : List ActionState) (f h : Facts) (a : ℕ) → SameOf f h a
    → RightAt states f a
    → RightAt states h a
same_right states f h a s right = λ x here.
    let r = right x here in
    record {
      supplied = s.supplied ∙ r.supplied;
      waiting = s.waiting ∙ r.waiting;
      queued = λ g lt. s.queued g ∙ r.queued g (let e = s.groups in omega arith);
    }

pub same_supplied : (f h : Facts) (a : ℕ) → SameOf f h a → get_or h.supplied a 0
    ≡ get_or f.supplied a 0
same_supplied f h a s =
    sym (unwrap_or-slice_get h.supplied a 0) ∙ ap (λ o. unwrap_or o 0) s.supplied
    ∙ unwrap_or-slice_get f.supplied a 0

pub same_trans : (f g h : Facts) (a : ℕ) → SameOf f g a → SameOf g h a → SameOf f h a
same_trans f g h a s t = record {
  groups = t.groups ∙ s.groups;
  supplied = t.supplied ∙ s.supplied;
  waiting = t.waiting ∙ s.waiting;
  queued = λ k. t.queued k ∙ s.queued k;
}

pub same_self : (f : Facts) (a : ℕ) → SameOf f f a
same_self f a = record { groups = refl; supplied = refl; waiting = refl; queued = λ k. refl }

-- what is right is known
pub right_known : (states : List ActionState) (f : Facts) (a : ℕ) → RightAt states f a
    → AreKnown states a (get_or f.supplied a 0)
right_known states f a right = λ x here.
    let r = right x here in
    let e = get_or_from_slice_get f.supplied a (supplied_by states x.producers) 0 r.supplied in
    omega arith

pub none_known : (states : List ActionState) (a known : ℕ) → known ≡ 0 → AreKnown states a known
none_known states a known e = λ x here. omega arith

-- ---- a new board

pub none_supplied : (n a : ℕ) → ◌≡◌ {A = ℕ} (get_or (replicate n 0) a 0) 0
none_supplied zero a = refl
none_supplied (suc n) zero = refl
none_supplied (suc n) (suc a) = none_supplied n a

module _ (all : List Shape) (groups : ℕ)
    (named : (a g : ℕ) (s : Shape) → slice_get all a ≡ Some s → names g s ≡ true → g < groups)
    (n : ℕ) (size : n ≡ length all) where
  abbrev pub empty : Facts
  empty = record {
    supplied = replicate n 0;
    waiting = replicate n ABSENT;
    queues = replicate groups (replicate n ABSENT);
  }

  row_at : (g : ℕ) → g < groups → slice_get empty.queues g ≡ Some (replicate n ABSENT)
  row_at g lt =
      get_replicate (replicate n ABSENT) groups g
      ∙ ap (λ b. cond b (Some (replicate n ABSENT)) None) (lt-ltb g groups lt)

  pub empty_fits : Fits all empty
  empty_fits = record {
    supplied = length-replicate n 0 ∙ size;
    waiting = length-replicate n ABSENT ∙ size;
    queues = λ g q h.
        let lt = slice_get_within empty.queues g q h in
        let many = length-replicate groups (replicate n ABSENT) in
        let is : slice_get empty.queues g ≡ Some (replicate n ABSENT) = row_at g (omega arith) in
        let e : q ≡ replicate n ABSENT = cc in
        ap length e ∙ length-replicate n ABSENT ∙ size;
    named = λ a g s h m. let lt = named a g s h m in let many = length-replicate groups
        (replicate n ABSENT) in omega arith;
    strange = λ a g s h m lt.
        let many = length-replicate groups (replicate n ABSENT) in
        let within = slice_get_within all a s h in
        ap (option_and_then (λ q. slice_get q a)) (row_at g (omega arith))
        ∙ get_replicate ABSENT n a ∙ ap (λ b. cond b (Some ABSENT) None) (lt-ltb a n (omega arith));
  }

-- ---- the users of an action, one by one

pub is_in_at : (xs : List ℕ) (k : ℕ) → k < length xs → is_in (get_or xs k 0) xs ≡ true
is_in_at [] k lt = absurd (omega arith)
is_in_at (x ∷ xs) zero lt = or_left (x == x) (is_in x xs) (eq-eqb x x refl)
is_in_at (x ∷ xs) (suc k) lt = or_right (x == get_or xs k 0) (is_in (get_or xs k 0) xs)
    (is_in_at xs k (omega arith))

-- the next user is noted, and the others before it stay right
pub next_right : (states : List ActionState) (f h : Facts) (xs : List ℕ) (k : ℕ) → k < length xs
    → ((a : ℕ) → is_in a (take k xs) ≡ true → RightAt states f a)
    → RightAt states h (get_or xs k 0) → ((a : ℕ) → a ≢ get_or xs k 0 → SameOf f h a)
    → (a : ℕ) → is_in a (take (k + 1) xs) ≡ true → RightAt states h a
next_right states f h xs k lt before now others a m =
    elim (cases_eq a (get_or xs k 0)) [
      | inl same ↦ subst (RightAt states h) (sym same) now
      | inr apart ↦
          (let more = list_any_more (λ x. x == a) xs k 0 lt in
          let miss : (get_or xs k 0 == a) ≡ false = ne_eqb (get_or xs k 0) a (λ e. apart (sym e)) in
          let old : is_in a (take k xs) ≡ true = or_false (is_in a (take k xs)) ∙ sym (more ∙ ap
          (λ b. is_in a (take k xs) || b) miss) ∙ m in
          same_right states f h a (others a apart) (before a old))
    ]
  where
    or_false : (b : Bool) → b ≡ (b || false)
    or_false true = refl
    or_false false = refl

pub next_same : (f g h : Facts) (xs : List ℕ) (k : ℕ) → k < length xs
    → ((a : ℕ) → is_in a (take k xs) ≡ false → SameOf f g a)
    → ((a : ℕ) → a ≢ get_or xs k 0 → SameOf g h a)
    → (a : ℕ) → is_in a (take (k + 1) xs) ≡ false → SameOf f h a
next_same f g h xs k lt before others a m =
    let more = list_any_more (λ x. x == a) xs k 0 lt in
    let parts = or_parts (is_in a (take k xs)) (get_or xs k 0 == a) (sym more ∙ m) in
    same_trans f g h a (before a parts.0) (others a (λ e. eqb-false (get_or xs k 0) a parts.1
    (sym e)))

-- so many of the next user's producers are known
pub next_known : (states : List ActionState) (f g : Facts) (xs : List ℕ) (k a known : ℕ)
    (success : Bool)
    → ((c : ℕ) → is_in c (take k xs) ≡ true → RightAt states g c)
    → ((c : ℕ) → is_in c (take k xs) ≡ false → SameOf f g c)
    → (success ≡ true → (c : ℕ) → AreKnown states c (get_or f.supplied c 0))
    → known ≡ cond success (get_or g.supplied a 0) 0 → AreKnown states a known
next_known states f g xs k a known false right others low is = none_known states a known is
next_known states f g xs k a known true right others low is =
    subst (AreKnown states a) (sym is)
    (by_bool (is_in a (take k xs)) (λ _. AreKnown states a (get_or g.supplied a 0))
    (λ hit. right_known states g a (right a hit))
    (λ miss. subst (AreKnown states a) (sym (same_supplied f g a (others a miss))) (low refl a)))
