-- Lanes as the bits of a number.
use Rattle.std.proofs.Common.{◌≡◌, ◌⊎◌, ℕ, zero, suc, ◌-◌, ◌*◌, ◌^◌, ◌%◌, ◌<◌, Bool, true, false, cond}
use Rattle.std.proofs.Common.{max, min, inl, inr, refl, ap, sym, ◌∙◌, arith, subst, bit_and, bit_or}
use Rattle.std.proofs.Common.{eq-eqb, ne_eqb}
use native.Mathlib.Numerals.{unary_clauses}
use Rattle.std.specs.Int.{bit_at, w128}
use Rattle.std.proofs.Math.Nat.{zero-max}
use Rattle.std.proofs.lemmas.Bool.{cases_eq}
use Rattle.std.proofs.lemmas.Nat.{one_shl}
use Rattle.std.proofs.lemmas.Nat.Bits.{bit_at-zero, bit_at-lt, bit_at-pow_same, bit_at-pow_other, bit_at_or, bit_at_and}
use Rattle.std.proofs.lemmas.Nat.Bits.{bit_at_set_same, bit_at_set_other, bit_at_clear_same, bit_at_clear_other}
use Rattle.work_queue.specs.States.{reader}
use Rattle.work_queue.specs.Resting.{Names, bit_for, NamesOne, RestsThen, NamesLanes, NamesReader, NamesHand}

zero_one : ◌≡◌ {A = ℕ} 0 1 → ⊥
zero_one e = cc

max_first : (x : ℕ) → x < 2 → max 1 x ≡ 1
max_first zero lt = refl
max_first (suc zero) lt = refl
max_first (suc (suc n)) lt = absurd (omega (arith, lt))

max_second : (x : ℕ) → x < 2 → max x 1 ≡ 1
max_second zero lt = refl
max_second (suc zero) lt = refl
max_second (suc (suc n)) lt = absurd (omega (arith, lt))

max_back : (x y : ℕ) → x < 2 → max x y ≡ 1 → (x ≡ 1) ⊎ (y ≡ 1)
max_back zero y lt e = inr (sym (zero-max y) ∙ e)
max_back (suc zero) y lt e = inl refl
max_back (suc (suc n)) y lt e = absurd (omega (arith, lt))

min_back : (x y : ℕ) → x < 2 → min x y ≡ 1 → x ≡ 1
min_back zero y lt e = absurd (zero_one (simp unary_clauses at e))
min_back (suc zero) y lt e = refl
min_back (suc (suc n)) y lt e = absurd (omega (arith, lt))

min_zero : (x : ℕ) → min x 0 ≡ 1 → ⊥
min_zero zero e = zero_one (simp unary_clauses at e)
min_zero (suc x) e = zero_one (simp unary_clauses at e)

-- ---- who rests

module _ (n lane : ℕ) (low : lane < 128) where
  pub rests_set : (b : Bool) → b ≡ true → RestsThen lane b n (bit_or n (1 * 2 ^ lane % 2 ^ 128))
  rests_set b is k within = elim (cases_eq k lane) [
    | inl same ↦ ap (λ (i : ℕ). bit_at (bit_or n (1 * 2 ^ lane % 2 ^ 128)) i) same
        ∙ (bit_at_set_same w128 n lane low
        ∙ sym (ap {B = ℕ} (λ (x : Bool). cond x (bit_for b) (bit_at n k)) (eq-eqb k lane same)
        ∙ ap bit_for is))
    | inr other ↦ bit_at_set_other w128 n lane low k other
        ∙ sym (ap {B = ℕ} (λ (x : Bool). cond x (bit_for b) (bit_at n k)) (ne_eqb k lane other))
  ]

  pub rests_clear : (b : Bool) → b ≡ false
      → RestsThen lane b n (bit_and n (2 ^ 128 - 1 - 1 * 2 ^ lane % 2 ^ 128))
  rests_clear b is k within = elim (cases_eq k lane) [
    | inl same ↦ ap (λ (i : ℕ). bit_at (bit_and n (2 ^ 128 - 1 - 1 * 2 ^ lane % 2 ^ 128)) i) same
        ∙ (bit_at_clear_same w128 n lane low
        ∙ sym (ap {B = ℕ} (λ (x : Bool). cond x (bit_for b) (bit_at n k)) (eq-eqb k lane same)
        ∙ ap bit_for is))
    | inr other ↦ bit_at_clear_other w128 n lane low k within other
        ∙ sym (ap {B = ℕ} (λ (x : Bool). cond x (bit_for b) (bit_at n k)) (ne_eqb k lane other))
  ]

-- ---- one of some

one_so : (lanes z : ℕ) → bit_at lanes z ≡ 1 → NamesOne lanes (2 ^ z)
one_so lanes z here = record {
  some = λ lane n. (z, here, bit_at-pow_same z);
  only = λ lane n. elim (cases_eq lane z) [
    | inl same ↦ ap (λ (i : ℕ). bit_at lanes i) same ∙ here
    | inr other ↦ absurd (zero_one (sym (bit_at-pow_other z lane other) ∙ n))
  ];
}

pub one_found : (lanes z : ℕ) → z < 128 → bit_at lanes z ≡ 1
    → NamesOne lanes (1 * 2 ^ z % 2 ^ 128)
one_found lanes z low here =
    subst (λ (x : ℕ). NamesOne lanes x) (sym (one_shl z 128 low)) (one_so lanes z here)

-- ---- the reader, and a hand

pub names_reader : (waiting depth resting : ℕ) → NamesReader waiting depth resting (bit_and resting 1)
names_reader waiting depth resting = record {
  some = λ lt rests. bit_at_and resting 1 0
      ∙ (ap (λ (x : ℕ). min x (bit_at 1 0)) rests ∙ refl);
  only = λ lane n. min_back (bit_at resting lane) (bit_at 1 lane) (bit_at-lt resting lane)
      (sym (bit_at_and resting 1 lane) ∙ n);
}

not_named : (lane : ℕ) → Names 0 lane → ⊥
not_named lane n = zero_one (sym (bit_at-zero lane) ∙ n)

pub no_reader : (waiting depth resting : ℕ) → (waiting < depth → ⊥)
    → NamesReader waiting depth resting 0
no_reader waiting depth resting none = record {
  some = λ lt rests. absurd (none lt);
  only = λ lane n. absurd (not_named lane n);
}

pub names_hand : (waiting resting one : ℕ)
    → NamesOne (bit_and resting (2 ^ 128 - 1 - 1 * 2 ^ 0 % 2 ^ 128)) one
    → NamesHand waiting resting one
names_hand waiting resting one o =
    let rest : ℕ = bit_and resting (2 ^ 128 - 1 - 1 * 2 ^ 0 % 2 ^ 128) in
    let first : 0 < 128 = omega arith in
    let back : (lane : ℕ) → Names rest lane → Names resting lane = λ lane n.
    min_back (bit_at resting lane) (bit_at (2 ^ 128 - 1 - 1 * 2 ^ 0 % 2 ^ 128) lane)
    (bit_at-lt resting lane)
    (sym (bit_at_and resting (2 ^ 128 - 1 - 1 * 2 ^ 0 % 2 ^ 128) lane) ∙ n) in record {
      some = λ lt lane low other n.
          let found = o.some lane (bit_at_clear_other w128 resting 0 first lane low other ∙ n) in (
            found.0,
            λ is. zero_one (sym (bit_at_clear_same w128 resting 0 first)
                ∙ (ap (λ (i : ℕ). bit_at rest i) (sym is) ∙ found.1)),
            back found.0 found.1,
            found.2,
          );
      only = λ lane n. back lane (o.only lane n);
    }

pub no_hand : (waiting resting : ℕ) → (0 < waiting → ⊥) → NamesHand waiting resting 0
no_hand waiting resting none = record {
  some = λ lt lane low other n. absurd (none lt);
  only = λ lane n. absurd (not_named lane n);
}

false_not_true : false ≡ true → ⊥
false_not_true e = cc

pub names_both : (waiting depth resting a b : ℕ) → NamesReader waiting depth resting a
    → NamesHand waiting resting b → NamesLanes false waiting depth resting (bit_or a b)
names_both waiting depth resting a b r h = record {
  ends = λ e lane n. absurd (false_not_true e);
  room = λ lt rests. bit_at_or a b reader
      ∙ (ap (λ (x : ℕ). max x (bit_at b reader)) (r.some lt rests)
      ∙ max_first (bit_at b reader) (bit_at-lt b reader));
  waits = λ lt lane low other n.
      let found = h.some lt lane low other n in (
        found.0,
        found.1,
        found.2,
        bit_at_or a b found.0 ∙ (ap (λ (x : ℕ). max (bit_at a found.0) x) found.3
            ∙ max_second (bit_at a found.0) (bit_at-lt a found.0)),
      );
  only = λ lane n. elim (max_back (bit_at a lane) (bit_at b lane) (bit_at-lt a lane)
      (sym (bit_at_or a b lane) ∙ n)) [
        | inl x ↦ r.only lane x
        | inr x ↦ h.only lane x
      ];
}
