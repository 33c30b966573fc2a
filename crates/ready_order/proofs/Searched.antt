-- The search of a tournament finds the least number at the places of a set.
use Rattle.std.proofs.Common.{◌≡◌, ℕ, zero, suc, ◌+◌, ◌-◌, ◌*◌, ◌/◌, ◌<◌, ◌≤◌, ◌≢◌, Bool, true, false, inl, inr, List, get_or, drop, refl, ap, sym, ◌∙◌, arith, length-drop}
use Rattle.std.proofs.lemmas.Bool.{cases_eq}
use Rattle.std.proofs.lemmas.List.{get_or-drop}
use Rattle.ready_order.specs.declared.winner_tree.TheConstants.{ABSENT}
use Rattle.ready_order.specs.Matches.{IsLeastAmong, IsLeastBelow, IsPlayed, MayAsk, above}
use Rattle.ready_order.proofs.Winners.{half_wins}

-- ---- matches above a node

above_half : (n k : ℕ) → above n (k / 2) ≡ above n k / 2
above_half zero k = refl
above_half (suc n) k = ap (λ m. m / 2) (above_half n k)

above_le : (n k : ℕ) → above n k ≤ k
above_le zero k = omega arith
above_le (suc n) k = let more = above_le n k in omega arith

-- the first node stands above each other
first_above : (most k : ℕ) → k ≤ most → 1 ≤ k → (n : ℕ) × (above n k ≡ 1)
first_above zero k le low = absurd (omega arith)
first_above (suc most) k le low =
    elim (cases_eq k 1) [
      | inl is ↦ (zero, is)
      | inr more ↦
          (let w = first_above most (k / 2) (omega arith) (omega arith) in
          (suc w.0, sym (above_half w.0 k) ∙ w.1))
    ]

module _ (set : ℕ → Bool) (nodes : List ℕ) (places : ℕ) (p : IsPlayed nodes places) where
  above_wins : (n k : ℕ) → 1 ≤ above n k → k < 2 * places
      → get_or nodes (above n k) 0 ≤ get_or nodes k 0
  above_wins zero k low high = omega arith
  above_wins (suc n) k low high =
      let lower = above_le n k in
      let rest = above_wins n k (omega arith) high in
      let here = half_wins nodes places p (above n k) (omega arith) (omega arith) in
      omega arith

  -- ---- the search

  -- no number below the node is less than the bound
  pub passed : (node bound : ℕ) → 0 < node → bound ≤ get_or nodes node 0
      → IsLeastBelow set nodes places node bound bound
  passed node bound low high = record {
    bounded = omega arith;
    none_less = λ k n lt is at.
        let wins = above_wins n (places + k) (omega arith) (omega arith) in
        let e = ap (λ i. get_or nodes i 0) at in
        omega arith;
    among = λ other. absurd (other refl);
  }

  at_place : (node k n : ℕ) → places ≤ node → node < 2 * places → k < places
      → above n (places + k) ≡ node → places + k ≡ node
  at_place node k zero low high lt at = at
  at_place node k (suc n) low high lt at =
      let lower = above_le n (places + k) in absurd (omega arith)

  -- the node is that of a place of the set
  pub taken : (node bound : ℕ) → places ≤ node → node < 2 * places → set (node - places) ≡ true
      → get_or nodes node 0 ≤ bound
      → IsLeastBelow set nodes places node bound (get_or nodes node 0)
  taken node bound low high is less = record {
    bounded = less;
    none_less = λ k n lt _ at.
        let same = at_place node k n low high lt at in
        let e = ap (λ i. get_or nodes i 0) same in
        omega arith;
    among = λ _.
        let same : places + (node - places) ≡ node = omega arith in
        (node - places, omega arith, is, ap (λ i. get_or nodes i 0) same);
  }

  -- it is that of another place
  pub left_out : (node bound : ℕ) → places ≤ node → node < 2 * places
      → set (node - places) ≡ false → IsLeastBelow set nodes places node bound bound
  left_out node bound low high not_in = record {
    bounded = omega arith;
    none_less = λ k n lt is at.
        let same = at_place node k n low high lt at in
        let place : node - places ≡ k = omega arith in
        let out : set k ≡ false = ap set (sym place) ∙ not_in in
        absurd (cc);
    among = λ other. absurd (other refl);
  }

  -- below the node stands whatever stands below one of the two nodes below it
  pub both_sides : (node first second bound nearer least : ℕ) → node < places → 0 < node
      → first / 2 ≡ node → second / 2 ≡ node → first ≢ second
      → IsLeastBelow set nodes places first bound nearer
      → IsLeastBelow set nodes places second nearer least
      → IsLeastBelow set nodes places node bound least
  both_sides node first second bound nearer least inner low left right apart one two = record {
    bounded = let a = one.bounded in let b = two.bounded in omega arith;
    none_less = none_less;
    among = λ other. elim (cases_eq least nearer) [
      | inl same ↦
          (let w = one.among (λ e. other (same ∙ e)) in
          (w.0, w.1, w.2, w.3 ∙ sym same))
      | inr nearest ↦ two.among nearest
    ];
  }
    where
      none_less : (k n : ℕ) → k < places → set k ≡ true → above n (places + k) ≡ node
          → least ≤ get_or nodes (places + k) 0
      none_less k zero lt is at = absurd (omega arith)
      none_less k (suc n) lt is at =
          let best = two.bounded in
          elim (cases_eq (above n (places + k)) first) [
            | inl here ↦ (let le = one.none_less k n lt is here in omega arith)
            | inr beside ↦
                two.none_less k n lt is
                (other_half (above n (places + k)) at beside)
          ]
        where
          other_half : (c : ℕ) → c / 2 ≡ node → c ≢ first → c ≡ second
          other_half c half beside =
              elim (cases_eq c second) [
                | inl same ↦ same
                | inr neither ↦ absurd (omega arith)
              ]

  -- the place of the node has a number
  pub askable : (ask : ℕ → Type 0) (node bound : ℕ) → MayAsk ask (drop places nodes)
      → places ≤ node → node < 2 * places → get_or nodes node 0 < bound → bound ≤ ABSENT
      → ask (node - places)
  askable ask node bound may low high less most =
      let size = p.size in let len = length-drop places nodes in
      let same : places + (node - places) ≡ node = omega arith in
      let e = get_or-drop places nodes (node - places) 0 ∙ ap (λ i. get_or nodes i 0) same in
      may (node - places) (omega arith) (λ absent. omega arith)

  -- ---- the whole tournament

  pub whole : (least : ℕ) → 0 < places → IsLeastBelow set nodes places 1 ABSENT least
      → IsLeastAmong set (drop places nodes) least
  whole least some found = record {
    none_less = λ k lt is.
        let size = p.size in let len = length-drop places nodes in
        let w = first_above (places + k) (places + k) (omega arith) (omega arith) in
        let le = found.none_less k w.0 (omega arith) is w.1 in
        let e = get_or-drop places nodes k 0 in
        omega arith;
    among = λ there.
        let size = p.size in let len = length-drop places nodes in
        let w = found.among there in
        (w.0, (let lt = w.1 in omega arith), w.2, get_or-drop places nodes w.0 0 ∙ w.3);
  }
