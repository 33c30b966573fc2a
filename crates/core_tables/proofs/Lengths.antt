-- How long a list is, by its elements.
use Rattle.std.proofs.Common.{◌≡◌, ℕ, zero, suc, nat_lt, true, false, cond, List, [], ◌∷◌, length, Some, None, option_map, refl, ap, ◌∙◌, arith}
use Rattle.std.specs.Prelude.{slice_get}
use Rattle.std.proofs.lemmas.Bool.{lt-ltb, ltb-true, ltb-false}
use Rattle.exec_journal.proofs.Ruled.{by_bool}

-- a list whose elements below n are there, and no others, has n elements
pub length_is : {X : Type 0} (xs : List X) (n : ℕ) (g : ℕ → X)
    → ((i : ℕ) → slice_get xs i ≡ cond (nat_lt i n) (Some (g i)) None) → length xs ≡ n
length_is [] zero g h = refl
length_is [] (suc n) g h = absurd (let k = h 0 in let z : nat_lt 0 (suc n) ≡ true =
    lt-ltb 0 (suc n) (omega arith) in let y = k ∙ ap (λ b. cond b (Some (g 0)) None) z in cc)
length_is (x ∷ xs) zero g h = absurd (let k = h 0 in let z : nat_lt 0 0 ≡ false = refl in
    let y = k ∙ ap (λ b. cond b (Some (g 0)) None) z in cc)
length_is (x ∷ xs) (suc n) g h = ap suc (length_is xs n (λ i. g (suc i))
    (λ i. h (suc i) ∙ ap (λ b. cond b (Some (g (suc i))) None) (shift i)))
  where
    shift : (i : ℕ) → nat_lt (suc i) (suc n) ≡ nat_lt i n
    shift i = by_bool (nat_lt i n) (λ b. nat_lt i n ≡ b → nat_lt (suc i) (suc n) ≡ b)
        (λ yes h2. let lt = ltb-true i n yes in lt-ltb (suc i) (suc n) (omega arith))
        (λ ne h2. let ge = ltb-false i n ne in by_bool (nat_lt (suc i) (suc n)) (λ b. b ≡ false)
        (λ up. absurd (let lt = ltb-true (suc i) (suc n) up in omega arith)) (λ _. refl)) refl

pub length_as : {X Y : Type 0} (g : ℕ → Y → X) (xs : List X) (ys : List Y)
    → ((i : ℕ) → slice_get xs i ≡ option_map (g i) (slice_get ys i)) → length xs ≡ length ys
length_as g [] [] h = refl
length_as g [] (y ∷ ys) h = absurd (let k = h 0 in cc)
length_as g (x ∷ xs) [] h = absurd (let k = h 0 in cc)
length_as g (x ∷ xs) (y ∷ ys) h = ap suc (length_as (λ i. g (suc i)) xs ys (λ i. h (suc i)))
