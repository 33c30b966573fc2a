-- Of the first numbers: whether one has a property or all have another, and which is the greatest
-- by
-- a measure.
use Rattle.std.proofs.Common.{◌≡◌, ℕ, zero, suc, ◌<◌, ◌≤◌, nat_lt, Bool, true, false, ◌⊎◌, inl, inr, refl, sym, subst, arith}
use Rattle.std.proofs.lemmas.Bool.{ltb-true, ltb-false}
use Rattle.exec_journal.proofs.Ruled.{by_bool}
use Rattle.journal_laws.proofs.Claims.{clash}

-- ---- one, or all

pub one_or_all : (A B : ℕ → Type 0) (n : ℕ) → ((w : ℕ) → w < n → A w ⊎ B w) → ((w : ℕ) × A w)
    ⊎ ((w : ℕ) → w < n → B w)
one_or_all A B zero f = inr (λ w lt. absurd (omega (arith, lt)))
one_or_all A B (suc n) f = elim (one_or_all A B n (λ w lt. f w (omega (arith, lt)))) [
  | inl found ↦ inl found
  | inr all ↦ elim (f n (omega arith)) [
    | inl a ↦ inl (n, a)
    | inr b ↦ inr (λ w lt. by_bool (nat_lt w n) (λ z. nat_lt w n ≡ z → B w)
        (λ _ low. all w (ltb-true w n low)) (λ _ high.
        (let le = ltb-false w n high in subst B (sym (same_top w n lt le)) b)) refl)
  ]
]
  where
    same_top : (w n : ℕ) → w < suc n → n ≤ w → w ≡ n
    same_top w n lt le = omega (arith, lt, le)

-- ---- the greatest of those that pass a test

pub record IsGreatest (P : ℕ → Bool) (f : ℕ → ℕ) (n : ℕ) : Type 0 where
  pub top : ℕ
  pub below : top < n
  pub passes : P top ≡ true
  pub most : (v : ℕ) → v < n → P v ≡ true → f v ≤ f top

pub greatest : (P : ℕ → Bool) (f : ℕ → ℕ) (n : ℕ) → IsGreatest P f n
    ⊎ ((v : ℕ) → v < n → P v ≡ false)
greatest P f zero = inr (λ v lt. absurd (omega (arith, lt)))
greatest P f (suc n) =
    by_bool (P n) (λ b. P n ≡ b → IsGreatest P f (suc n) ⊎ ((v : ℕ) → v < suc n → P v ≡ false))
    (λ _ on. inl (more on (greatest P f n))) (λ _ off. less off (greatest P f n)) refl
  where
    split : (Q : ℕ → Type 0) → ((v : ℕ) → v < n → Q v) → Q n → (v : ℕ) → v < suc n → Q v
    split Q low here v lt =
        by_bool (nat_lt v n) (λ b. nat_lt v n ≡ b → Q v) (λ _ y. low v (ltb-true v n y))
        (λ _ y. (let le = ltb-false v n y in let same : n ≡ v = omega (arith, lt, le) in
        subst Q same here)) refl

    more : P n ≡ true → IsGreatest P f n ⊎ ((v : ℕ) → v < n → P v ≡ false) → IsGreatest P f (suc n)
    more on (inr none) =
        record {
          top = n;
          below = omega arith;
          passes = on;
          most = split
              (λ v. P v ≡ true → f v ≤ f n) (λ v lt y. absurd (clash (P v) y (none v lt)))
              (λ y. omega arith);
        }
    more on (inl g) =
        by_bool (nat_lt (f g.top) (f n)) (λ b. nat_lt (f g.top) (f n) ≡ b → IsGreatest P f (suc n))
        (λ _ y. (let up = ltb-true (f g.top) (f n) y in
        record {
          top = n;
          below = omega arith;
          passes = on;
          most = split
              (λ v. P v ≡ true → f v ≤ f n) (λ v lt z. (let m = g.most v lt z in omega
              (arith, up, m))) (λ z. omega arith);
        }))
        (λ _ y. (let down = ltb-false (f g.top) (f n) y in let lt0 = g.below in
        record {
          top = g.top;
          below = omega (arith, lt0);
          passes = g.passes;
          most = split
              (λ v. P v ≡ true → f v ≤ f g.top) (λ v lt z. g.most v lt z) (λ z. down);
        })) refl

    less : P n ≡ false → IsGreatest P f n ⊎ ((v : ℕ) → v < n → P v ≡ false) → IsGreatest P f (suc n)
        ⊎ ((v : ℕ) → v < suc n → P v ≡ false)
    less off (inr none) = inr (split (λ v. P v ≡ false) none off)
    less off (inl g) =
        (let lt0 = g.below in inl (record {
          top = g.top;
          below = omega (arith, lt0);
          passes =
              g.passes;
          most = split (λ v. P v ≡ true → f v ≤ f g.top) (λ v lt z. g.most v lt z)
              (λ z. absurd (clash (P n) z off));
        }))
