-- Lanes that are marked, one after another.
use Rattle.std.proofs.Common.{◌≡◌, ℕ, ◌+◌, ◌-◌, ◌*◌, ◌%◌, ◌^◌, ◌<◌, ◌≤◌, ◌==◌, nat_lt, Bool, true, false, ◌&&◌, not, max, min, bit_and, inl, inr, refl, ap, sym, ◌∙◌, arith}
use Rattle.std.specs.Int.{bit_at, bit_not, w128}
use Rattle.std.specs.Int.RustNames.{bit_or}
use Rattle.std.proofs.Math.Nat.{max-zero, zero-max}
use Rattle.std.proofs.lemmas.Bool.{cases_eq, cases_lt, lt-ltb, le-ltb, ne_eqb, eq-eqb}
use Rattle.std.proofs.lemmas.Nat.Bits.{bit_at-zero, bit_at-lt, bit_at-pow_same, bit_at-pow_other, bit_at_and, bit_at_or, bit_at_not, bit_at_clear_same, bit_at_clear_other}
use Rattle.core_machine.specs.Marks.{Marks, bit_for}
use Rattle.core_machine.specs.Waking.{is_stirred}

and_false : (b : Bool) → b && false ≡ false
and_false true = refl
and_false false = refl

pub marks_none : (f : ℕ → Bool) → Marks 0 0 f
marks_none f lane =
    bit_at-zero lane ∙ ap (λ b. bit_for (b && f lane)) (sym (le-ltb lane 0 (omega arith)))

-- a number below the next is below the last one, or it is that
below_next : (lane n : ℕ) → (lane ≡ n → ⊥) → nat_lt lane (n + 1) ≡ nat_lt lane n
below_next lane n other = elim (cases_lt lane n) [
  | inl low ↦ lt-ltb lane (n + 1) (omega (arith, low)) ∙ sym (lt-ltb lane n low)
  | inr high ↦ le-ltb lane (n + 1) (omega (arith, high, other)) ∙ sym (le-ltb lane n high)
]

-- one more lane is looked at, for which f holds
pub marks_on : (x n : ℕ) (f : ℕ → Bool) → Marks x n f → f n ≡ true
    → Marks (bit_or x (2 ^ n)) (n + 1) f
marks_on x n f m holds lane = elim (cases_eq lane n) [
  | inl same ↦ (let here : bit_at (2 ^ n) lane ≡ 1 =
      ap (bit_at (2 ^ n)) same ∙ bit_at-pow_same n in
      let none : bit_at x lane ≡ 0 = m lane
      ∙ ap (λ b. bit_for (b && f lane)) (le-ltb lane n (omega (arith, same))) in
      let whole : bit_for (nat_lt lane (n + 1) && f lane) ≡ 1 =
      ap (λ b. bit_for (b && f lane)) (lt-ltb lane (n + 1) (omega (arith, same)))
      ∙ ap bit_for (ap f same ∙ holds) in
      bit_at_or x (2 ^ n) lane ∙ (ap (λ a. max a (bit_at (2 ^ n) lane)) none
      ∙ (zero-max (bit_at (2 ^ n) lane) ∙ (here ∙ sym whole))))
  | inr other ↦ bit_at_or x (2 ^ n) lane
      ∙ (ap (max (bit_at x lane)) (bit_at-pow_other n lane other)
      ∙ (max-zero (bit_at x lane) ∙ (m lane
      ∙ ap (λ b. bit_for (b && f lane)) (sym (below_next lane n other)))))
]

-- and one for which it doesn't
pub marks_off : (x n : ℕ) (f : ℕ → Bool) → Marks x n f → f n ≡ false → Marks x (n + 1) f
marks_off x n f m fails lane = elim (cases_eq lane n) [
  | inl same ↦ (let not_it : f lane ≡ false = ap f same ∙ fails in
      m lane ∙ (ap (λ b. bit_for (nat_lt lane n && b)) not_it
      ∙ (ap bit_for (and_false (nat_lt lane n))
      ∙ (sym (ap bit_for (and_false (nat_lt lane (n + 1))))
      ∙ ap (λ b. bit_for (nat_lt lane (n + 1) && b)) (sym not_it)))))
  | inr other ↦ m lane ∙ ap (λ b. bit_for (b && f lane)) (sym (below_next lane n other))
]

-- ---- those that are marked now, weren't before and aren't the caller's

min_none : (x : ℕ) → min 0 x ≡ 0
min_none x = omega arith

-- the bit of one that is marked, unless another number has the bit
apart : (b : Bool) (x : ℕ) → x < 2 → min (bit_for b) (1 - x) ≡ bit_for (b && (x == 0))
apart true x small = elim (cases_eq x 0) [
  | inl none ↦ ap (λ (y : ℕ). min 1 (1 - y)) none ∙ sym (ap bit_for (eq-eqb x 0 none))
  | inr some ↦ (let one : x ≡ 1 = omega (arith, small, some) in
      ap (λ (y : ℕ). min 1 (1 - y)) one ∙ sym (ap bit_for (ne_eqb x 0 some)))
]
apart false x small = min_none (1 - x)

-- what is told of each part tells it of all
in_all : (a b c d : Bool) → c ≡ false → (a && b) && d ≡ a && (b && (not c && d))
in_all true true c d not_it = ap (λ e. not e && d) (sym not_it)
in_all true false c d not_it = refl
in_all false b c d not_it = refl

in_none : (a b c d : Bool) → c ≡ true → a && (b && (not c && d)) ≡ false
in_none true true c d it = ap (λ e. not e && d) it
in_none true false c d it = refl
in_none false b c d it = refl

module _ (now before first caller : ℕ) (small : before < 2 ^ 128) (news : ℕ → Bool) (count : ℕ)
    (few : count ≤ 128) (m : Marks now count (λ k. news (first + k))) where
  abbrev new : ℕ
  new = bit_and now (bit_not w128 before)

  abbrev stirs : ℕ → Bool
  stirs = is_stirred news first before caller

  none_of_none : (x y k : ℕ) → bit_at x k ≡ 0 → bit_at (bit_and x y) k ≡ 0
  none_of_none x y k none =
      bit_at_and x y k ∙ (ap (λ (b : ℕ). min b (bit_at y k)) none ∙ min_none (bit_at y k))

  new_above : (k : ℕ) → 128 ≤ k → bit_at new k ≡ 0
  new_above k high = none_of_none now (bit_not w128 before) k
      (m k ∙ ap (λ b. bit_for (b && news (first + k))) (le-ltb k count (omega (arith, few, high))))

  none_above : (k : ℕ) → 128 ≤ k → bit_for (nat_lt k count && stirs k) ≡ 0
  none_above k high =
      ap (λ b. bit_for (b && stirs k)) (le-ltb k count (omega (arith, few, high)))

  others : (k : ℕ) → k < 128 → (first + k ≡ caller → ⊥)
      → bit_at new k ≡ bit_for (nat_lt k count && stirs k)
  others k low other =
      bit_at_and now (bit_not w128 before) k
      ∙ (ap (min (bit_at now k)) (bit_at_not w128 before k small low)
      ∙ (ap (λ (b : ℕ). min b (1 - bit_at before k)) (m k)
      ∙ (apart (nat_lt k count && news (first + k)) (bit_at before k) (bit_at-lt before k)
      ∙ ap bit_for (in_all (nat_lt k count) (news (first + k)) (first + k == caller)
      (bit_at before k == 0) (ne_eqb (first + k) caller other)))))

  own : (k : ℕ) → first + k ≡ caller → bit_for (nat_lt k count && stirs k) ≡ 0
  own k same = ap bit_for (in_none (nat_lt k count) (news (first + k)) (first + k == caller)
      (bit_at before k == 0) (eq-eqb (first + k) caller same))

  -- where the caller is none of the span's lanes
  pub stirred_all : ((k : ℕ) → k < 128 → first + k ≡ caller → ⊥) → Marks new count stirs
  stirred_all none k = elim (cases_lt k 128) [
    | inl low ↦ others k low (none k low)
    | inr high ↦ new_above k high ∙ sym (none_above k high)
  ]

  -- and where it is one of them
  pub stirred_but_one : first ≤ caller → caller - first < 128
      → Marks (bit_and new (bit_not w128 (1 * 2 ^ (caller - first) % 2 ^ 128))) count stirs
  stirred_but_one from within k = elim (cases_lt k 128) [
    | inl low ↦ elim (cases_eq k (caller - first)) [
      | inl same ↦ (let is : first + k ≡ caller = omega (arith, from, same) in
          ap (bit_at cleared) same ∙ (bit_at_clear_same w128 new (caller - first) within
          ∙ sym (own k is)))
      | inr other ↦ (let no : first + k ≡ caller → ⊥ = λ is. other (omega (arith, from, is)) in
          bit_at_clear_other w128 new (caller - first) within k low other ∙ others k low no)
    ]
    | inr high ↦ none_of_none new (bit_not w128 (1 * 2 ^ (caller - first) % 2 ^ 128)) k
        (new_above k high) ∙ sym (none_above k high)
  ]
    where
      cleared : ℕ
      cleared = bit_and new (bit_not w128 (1 * 2 ^ (caller - first) % 2 ^ 128))
