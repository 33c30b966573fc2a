-- The winner of all matches is the least number.
use Rattle.std.proofs.Common.{◌≡◌, ℕ, zero, suc, ◌+◌, ◌-◌, ◌*◌, ◌/◌, ◌<◌, ◌≤◌, ◌⊎◌, inl, inr, min, List, get_or, drop, sym, ap, ◌∙◌, arith, length-drop}
use Rattle.std.proofs.lemmas.Bool.{cases_eq, cases_lt}
use Rattle.std.proofs.lemmas.List.{get_or-drop}
use Rattle.ready_order.specs.Matches.{IsPlayed, IsLeast}

-- ---- the winner

module _ (nodes : List ℕ) (places : ℕ) (p : IsPlayed nodes places) where
  at : ℕ → ℕ
  at k = get_or nodes k 0

  -- no node has less than the one above it
  pub half_wins : (k : ℕ) → 1 < k → k < 2 * places → get_or nodes (k / 2) 0 ≤ get_or nodes k 0
  half_wins k low high =
      let match = p.played (k / 2) (omega arith) (omega arith) in
      elim (cases_eq k (2 * (k / 2))) [
        | inl even ↦
            (let e : get_or nodes k 0 ≡ get_or nodes (2 * (k / 2)) 0 =
            ap (λ i. get_or nodes i 0) even in
            omega arith)
        | inr odd ↦
            (let other : k ≡ 2 * (k / 2) + 1 = omega arith in
            let e : get_or nodes k 0 ≡ get_or nodes (2 * (k / 2) + 1) 0 =
            ap (λ i. get_or nodes i 0) other in
            omega arith)
      ]

  -- none has less than the first
  first_wins : (n k : ℕ) → k ≤ n → 1 ≤ k → k < 2 * places → get_or nodes 1 0 ≤ get_or nodes k 0
  first_wins zero k le low high = absurd (omega arith)
  first_wins (suc n) k le low high =
      elim (cases_lt 1 k) [
        | inl more ↦
            (let half = first_wins n (k / 2) (omega arith) (omega arith) (omega arith) in
            let here = half_wins k more high in
            omega arith)
        | inr less ↦ (let is : k ≡ 1 = omega arith in
            let e : get_or nodes k 0 ≡ get_or nodes 1 0 = ap (λ i. get_or nodes i 0) is in omega arith)
      ]

  least_of : (a b : ℕ) → (min a b ≡ a) ⊎ (min a b ≡ b)
  least_of a b = elim (cases_lt a b) [ inl lt ↦ inl (omega arith) | inr le ↦ inr (omega arith) ]

  -- what a node has is a number of some place
  of_some_place : (n k : ℕ) → 2 * places ≤ k + n → 1 ≤ k → k < 2 * places
      → (i : ℕ) × (i < places) × (get_or nodes (places + i) 0 ≡ get_or nodes k 0)
  of_some_place zero k le low high = absurd (omega arith)
  of_some_place (suc n) k le low high =
      elim (cases_lt k places) [
        | inl above ↦
            (let match = p.played k low above in
            elim (least_of (get_or nodes (2 * k) 0) (get_or nodes (2 * k + 1) 0)) [
              | inl left ↦
                  (let w = of_some_place n (2 * k) (omega arith) (omega arith) (omega arith) in
                  (w.0, w.1, w.2 ∙ sym (match ∙ left)))
              | inr right ↦
                  (let w = of_some_place n (2 * k + 1) (omega arith) (omega arith) (omega arith) in
                  (w.0, w.1, w.2 ∙ sym (match ∙ right)))
            ])
        | inr place ↦
            (let is : places + (k - places) ≡ k = omega arith in
            (k - places, omega arith, ap (λ i. get_or nodes i 0) is))
      ]

  pub winner_is_least : 0 < places → IsLeast (drop places nodes) (get_or nodes 1 0)
  winner_is_least some = record {
    none_less = λ k lt.
        (let size = p.size in let len = length-drop places nodes in
        let here = first_wins (places + k) (places + k) (omega arith) (omega arith) (omega arith) in
        let e = get_or-drop places nodes k 0 in omega arith);
    among = λ _.
        (let size = p.size in let len = length-drop places nodes in
        let w = of_some_place (2 * places) 1 (omega arith) (omega arith) (omega arith) in
        (w.0, omega arith, get_or-drop places nodes w.0 0 ∙ w.2));
  }
