-- A user is put on one list more.
use Rattle.std.proofs.Common.{◌≡◌, ℕ, ◌+◌, ◌<◌, ◌≤◌, ◌==◌, Bool, true, false, ◌&&◌, ◌||◌, List, [], ◌∷◌, ◌++◌, length, get_or, set, take, Some, inl, inr, refl, ap, sym, ◌∙◌, arith, length-set, get_or-set_same, get_or-set_other}
use Rattle.std.specs.Prelude.{slice_get}
use Rattle.std.proofs.lemmas.Bool.{cases_eq, cases_lt, eq-eqb, ne_eqb, eqb-true, or_cases, or_left, or_right, and_parts, and_from}
use Rattle.std.proofs.lemmas.List.{get_or_past}
use Rattle.std.proofs.lemmas.List.Folds.{list_any_more, list_any-append}
use Rattle.ready_order.specs.Board.{AreUsers, IsAdded, Shape, is_in}

one_more : (o t k : Bool) → ((o || (t && k)) || (k || false)) ≡ (o || ((t || true) && k))
one_more true true true = refl
one_more true true false = refl
one_more true false true = refl
one_more true false false = refl
one_more false true true = refl
one_more false true false = refl
one_more false false true = refl
one_more false false false = refl

or_none : (b : Bool) → b ≡ (b || false)
or_none true = refl
or_none false = refl

module _ (ps : List ℕ) (i u : ℕ) (lt : i < length ps) (old now : List (List ℕ))
    (h : IsAdded (take i ps) u old now) where
  pub put_on : (p : ℕ) → p < length now → p ≡ get_or ps i 0
      → IsAdded (take (i + 1) ps) u old (set now p (get_or now p [] ++ u ∷ []))
  put_on p within is = record {
    size = length-set now p _ ∙ h.size;
    each = λ a c low.
        let more = list_any_more (λ x. x == a) ps i 0 lt in
        elim (cases_eq a p) [
          | inl same ↦
              (let hit : (get_or ps i 0 == a) ≡ true = eq-eqb (get_or ps i 0) a (sym is ∙ sym same) in
              rw (
                more,
                hit,
                same,
                get_or-set_same now p (get_or now p [] ++ u ∷ []) [] within,
                list_any-append (λ x. x == c) (get_or now p []) (u ∷ []),
              )
              (ap (λ b. b || ((u == c) || false)) (rw same at (h.each a c low))
              ∙ one_more (is_in c (get_or old p [])) (is_in p (take i ps)) (u == c)))
          | inr apart ↦
              (let miss : (get_or ps i 0 == a) ≡ false = ne_eqb (get_or ps i 0) a (λ e. apart (sym e
              ∙ sym is)) in
              rw (
                more,
                miss,
                get_or-set_other now p a (get_or now p [] ++ u ∷ []) [] apart,
                sym
                    (or_none (is_in a (take i ps))),
              )
              (h.each a c low))
        ];
  }

  pub left_out : (p : ℕ) → length now ≤ p → p ≡ get_or ps i 0 → IsAdded (take (i + 1) ps) u old now
  left_out p past is = record {
    size = h.size;
    each = λ a c low.
        let more = list_any_more (λ x. x == a) ps i 0 lt in
        let size = h.size in
        let miss : (get_or ps i 0 == a) ≡ false = ne_eqb (get_or ps i 0) a (λ e. absurd
        (omega arith)) in
        rw (more, miss, sym (or_none (is_in a (take i ps)))) (h.each a c low);
  }

-- the users of one action more
pub users_more : (all : List Shape) (i : ℕ) (s : Shape) (old now : List (List ℕ))
    → AreUsers all i old
    → slice_get all i ≡ Some s → IsAdded s.producers i old now → AreUsers all (i + 1) now
users_more all i s old now u here h = record {
  size = h.size ∙ u.size;
  known = λ a c m.
      elim (cases_lt a (length old)) [
        | inl lt ↦
            elim (or_cases (is_in c (get_or old a [])) (is_in a s.producers && i == c) (sym
            (h.each a c lt) ∙ m)) [
              | inl before ↦ (let k = u.known a c before in omega arith)
              | inr new ↦
                  (let e = eqb-true i c (and_parts (is_in a s.producers) (i == c) new).1 in omega arith)
            ]
        | inr past ↦
            (let size = h.size in
            let none : get_or now a [] ≡ [] = get_or_past now a [] (omega arith) in
            let m' : is_in c [] ≡ true = rw none at m in
            absurd (cc))
      ];
  among = λ a c t le k lt m.
      let size = u.size in
      let low : a < length old = omega arith in
      h.each a c low ∙
      elim (cases_lt c i) [
        | inl below ↦
            or_left (is_in c (get_or old a [])) (is_in a s.producers && i == c)
            (u.among a c t below k lt m)
        | inr past ↦
            (let same : i ≡ c = omega arith in
            let here' : slice_get all i ≡ Some t = rw same k in
            let is : t ≡ s = cc in
            or_right (is_in c (get_or old a [])) (is_in a s.producers && i == c)
            (and_from (is_in a s.producers) (i == c) (rw is at m) (eq-eqb i c same)))
      ];
}
