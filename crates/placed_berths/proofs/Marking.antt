-- Marking, an action at a time, and the search for the next mark.
use Rattle.std.proofs.Common.{◌≡◌, ℕ, ◌+◌, ◌-◌, ◌<◌, ◌≤◌, ◌==◌, nat_le, false, List, length, drop, set, Option, Some, None, refl, ap, sym, subst, ◌∙◌, arith, length-set}
use Rattle.std.specs.Prelude.{slice_index, unwrap_or}
use Rattle.std.proofs.lemmas.Bool.{eq-eqb, eqb-true, eqb-false, false_from_ne_true}
use Rattle.std.proofs.lemmas.List.{get_or-drop, get_or-set_same, get_or-set_other, length-drop}
use Rattle.exec_journal.proofs.Ruled.{by_bool}
use Rattle.ready_order.proofs.Places.{set_beside, set_here}
use Rattle.memchr.specs.Find.{IsFirstByte, Passes, is_byte}
use Rattle.placed_berths.specs.Counts.{Facts, Unmarked, count_at, is_action, is_marked}
use Rattle.placed_berths.specs.Walked.{IsNextMark, NextMark}

-- what isn't marked is another than what was
module _ (f : Facts) (marks : List ℕ) (n : ℕ) (lt : n < length marks) where
  other : (a : ℕ) → (slice_index (set marks n 1) a == 1) ≡ false → a ≡ n → ⊥
  other a un same =
      let one : slice_index (set marks n 1) a ≡ 1 =
      ap (λ k. slice_index (set marks n 1) k) same ∙ get_or-set_same marks n 1 0 lt in
      let yes = eq-eqb (slice_index (set marks n 1) a) 1 one in
      let clash = sym yes ∙ un in cc

  before : (a : ℕ) → (slice_index (set marks n 1) a == 1) ≡ false
      → (slice_index marks a == 1) ≡ false
  before a un = ap (λ k. k == 1) (sym (get_or-set_other marks n a 1 0 (other a un))) ∙ un

-- of the first n those are marked that wait for no more Ticks
pub record MarkedBelow (f : Facts) (n : ℕ) (marks : List ℕ) : Type 0 where
  pub size : length marks ≡ length f.marks
  pub each : (a : ℕ) → a < length marks → (slice_index marks a == 1) ≡ false
      → (is_marked f a ≡ false) × (a < n → nat_le f.ticks (count_at f a) ≡ false)

module _ (f : Facts) where
  pub none_marked : MarkedBelow f 0 f.marks
  none_marked = record {
    size = refl;
    each = λ a lt un. (un, λ past. absurd (omega (arith, past)));
  }

  module _ (n : ℕ) (marks : List ℕ) (so : MarkedBelow f n marks) (lt : n < length marks) where
    nearer : (a : ℕ) → a < n + 1 → (a ≡ n → ⊥) → a < n
    nearer a near apart = by_bool (a == n) (λ _. a < n)
        (λ yes. absurd (apart (eqb-true a n yes)))
        (λ no. let differ = eqb-false a n no in omega (arith, near, differ))

    pub next_marked : MarkedBelow f (n + 1) (set marks n 1)
    next_marked = record {
      size = length-set marks n 1 ∙ so.size;
      each = λ a within un.
          let long = length-set marks n 1 in
          let was = so.each a (omega (arith, within, long)) (before f marks n lt a un) in
          (was.0, λ near. was.1 (nearer a near (other f marks n lt a un)));
    }

    pub next_unmarked : nat_le f.ticks (count_at f n) ≡ false → MarkedBelow f (n + 1) marks
    next_unmarked still = record {
      size = so.size;
      each = λ a within un.
          let was = so.each a within un in (
            was.0,
            λ near. by_bool (a == n) (λ _. nat_le f.ticks (count_at f a) ≡ false)
                (λ yes. subst (λ k. nat_le f.ticks (count_at f k) ≡ false) (sym (eqb-true a n yes)) still)
                (λ no. was.1 (nearer a near (eqb-false a n no))),
          );
    }

  pub all_marked : (n : ℕ) (marks : List ℕ) → MarkedBelow f n marks → length f.marks ≤ n
      → Unmarked f (record f { marks = marks }) (λ a. nat_le f.ticks (count_at f a))
  all_marked n marks so le = record {
    size = so.size;
    each = λ a within un.
        let was = so.each a within un in
        let size = so.size in (was.0, was.1 (omega (arith, within, le, size)));
  }

  -- ---- one action

  pub one_marked : (n : ℕ) → n < length f.marks
      → Unmarked f (record f { marks = set f.marks n 1 }) (is_action (Some n))
  one_marked n lt = record {
    size = length-set f.marks n 1;
    each = λ a within un. (
      before f f.marks n lt a un,
      by_bool (n == a) (λ b. n == a ≡ b → b ≡ false)
          (λ yes _. absurd (other f f.marks n lt a un (sym (eqb-true n a yes)))) (λ _ _. refl) refl,
    );
  }

  pub not_marked : Unmarked f f (is_action None)
  not_marked = record { size = refl; each = λ a within un. (un, refl) }

  -- an action of no number is none
  pub past_marked : (n : ℕ) → length f.marks ≤ n → Unmarked f f (is_action (Some n))
  past_marked n past = record {
    size = refl;
    each = λ a within un. (
      un,
      by_bool (n == a) (λ b. n == a ≡ b → b ≡ false)
          (λ yes _. absurd (let same = eqb-true n a yes in omega (arith, same, past, within)))
          (λ _ _. refl) refl,
    );
  }

-- ---- a step of a Tick

-- one more is counted, and marked where it waits for no more Ticks
module _ (f : Facts) (n : ℕ) (counts marks : List ℕ) (v : ℕ)
    (so : MarkedBelow (record f { counts = counts }) n marks) (within : n < length counts)
    (size : length counts ≡ length marks) where
  abbrev counted : Facts
  counted = record f { counts = set counts n v }

  count_here : count_at counted n ≡ v
  count_here = ap (λ (o : Option ℕ). unwrap_or o 0) (set_here counts n v within)

  stays : MarkedBelow counted n marks
  stays = record {
    size = so.size;
    each = λ a lt un. let was = so.each a lt un in (
      was.0,
      λ near. ap (λ (o : Option ℕ). nat_le f.ticks (unwrap_or o 0))
          (set_beside counts n a v (λ same. absurd (omega (arith, near, same)))) ∙ was.1 near,
    );
  }

  pub counted_marked : MarkedBelow counted (n + 1) (set marks n 1)
  counted_marked = next_marked counted n marks stays (omega (arith, within, size))

  pub counted_unmarked : nat_le f.ticks v ≡ false → MarkedBelow counted (n + 1) marks
  counted_unmarked short =
      next_unmarked counted n marks stays (omega (arith, within, size))
      (ap (nat_le f.ticks) count_here ∙ short)

-- ---- the next mark

module _ (f : Facts) (from : ℕ) (hay : List ℕ) (rest : hay ≡ drop from f.marks) where
  at_rest : (c : ℕ) → from ≤ c → slice_index hay (c - from) ≡ slice_index f.marks c
  at_rest c low =
      let e : from + (c - from) ≡ c = omega (arith, low) in
      ap (λ (h : List ℕ). slice_index h (c - from)) rest ∙ get_or-drop from f.marks (c - from) 0
      ∙ ap (slice_index f.marks) e

  passed_over : (c : ℕ) → from ≤ c → (Passes (is_byte 1) hay (c - from) → ⊥)
      → is_marked f c ≡ false
  passed_over c low none = ap (λ k. k == 1) (sym (at_rest c low))
      ∙ false_from_ne_true (slice_index hay (c - from) == 1) none

  size_is : length hay ≡ length f.marks - from
  size_is = ap length rest ∙ length-drop from f.marks

  pub none_found : IsFirstByte (is_byte 1) hay None → IsNextMark f from None
  none_found none = λ c low high. passed_over c low
      (none (c - from) (omega arith) (let size = size_is in omega (arith, size, low, high)))

  pub one_found : (k : ℕ) → IsFirstByte (is_byte 1) hay (Some k) → NextMark f from (from + k)
  one_found k first = record {
    low = omega arith;
    high = (let size = size_is in let within = first.0.high in omega (arith, size, within));
    passed = λ c low high. passed_over c low
        (first.0.before (c - from) (omega arith) (omega (arith, low, high)));
  }
