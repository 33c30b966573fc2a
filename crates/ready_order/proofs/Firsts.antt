-- The least number of each queue, once one of them is written.
use Rattle.std.proofs.Common.{◌≡◌, ℕ, zero, suc, ◌<◌, ◌≤◌, ◌≢◌, ◌^◌, min, List, [], ◌∷◌, length, map, get_or, set, inl, inr, refl, sym, ◌∙◌, arith, length-set}
use Rattle.std.specs.Prelude.{replicate}
use Rattle.std.proofs.lemmas.Bool.{cases_eq, cases_lt}
use Rattle.std.proofs.lemmas.List.{length-replicate, map-set}
use Rattle.ready_order.specs.declared.winner_tree.TheConstants.{ABSENT}
use Rattle.ready_order.specs.Matches.{AreFirsts, IsLeast, least_number}

-- ---- the least number is the least

none_less : (q : List ℕ) (k : ℕ) → k < length q → least_number q ≤ get_or q k 0
none_less [] k lt = absurd (omega arith)
none_less (x ∷ xs) zero lt = omega arith
none_less (x ∷ xs) (suc k) lt = let rest = none_less xs k (omega arith) in omega arith

among : (q : List ℕ) → least_number q ≢ ABSENT
    → (k : ℕ) × (k < length q) × (get_or q k 0 ≡ least_number q)
among [] there = absurd (there refl)
among (x ∷ xs) there =
    elim (cases_lt x (least_number xs)) [
      | inl lt ↦ (zero, omega arith, omega arith)
      | inr le ↦
          (let is : min x (least_number xs) ≡ least_number xs = omega arith in
          let w = among xs (λ e. there (is ∙ e)) in
          (suc w.0, (let lt = w.1 in omega arith), w.2 ∙ sym is))
    ]

pub number_is_least : (q : List ℕ) → IsLeast q (least_number q)
number_is_least q = record { none_less = none_less q; among = among q }

number_most : (q : List ℕ) → least_number q ≤ ABSENT
number_most [] = omega arith
number_most (x ∷ xs) = let rest = number_most xs in omega arith

no_more : (q : List ℕ) (r s : ℕ) → r ≤ ABSENT → IsLeast q r → IsLeast q s → r ≤ s
no_more q r s most one two =
    elim (cases_eq s ABSENT) [
      | inl absent ↦ omega arith
      | inr there ↦
          (let w = two.among there in
          let le = one.none_less w.0 w.1 in
          let e = w.2 in
          omega arith)
    ]

least_is : (q : List ℕ) (r : ℕ) → r ≤ ABSENT → IsLeast q r → r ≡ least_number q
least_is q r most is =
    let low = no_more q r (least_number q) most is (number_is_least q) in
    let high = no_more q (least_number q) r (number_most q) (number_is_least q) is in
    omega arith

-- ---- new queues

all_absent : (n : ℕ) → least_number (replicate n ABSENT) ≡ ABSENT
all_absent zero = refl
all_absent (suc n) = let rest = all_absent n in omega arith

map_same : {X Y : Type 0} (f : X → Y) (x : X) (y : Y) → f x ≡ y → (n : ℕ)
    → replicate n y ≡ map f (replicate n x)
map_same f x y e zero = refl
map_same f x y e (suc n) = λ i. sym e i ∷ map_same f x y e n i

pub new_firsts : (groups places : ℕ) → groups ≤ 2 ^ 32
    → AreFirsts (replicate groups (replicate places ABSENT)) (replicate groups ABSENT)
new_firsts groups places few = record {
  few = let many = length-replicate groups (replicate places ABSENT) in omega arith;
  are = map_same least_number (replicate places ABSENT) ABSENT (all_absent places) groups;
}

-- ---- a queue is written

pub put_firsts : (queues : List (List ℕ)) (firsts : List ℕ) (g : ℕ) (q : List ℕ) (first : ℕ)
    → first ≤ ABSENT → IsLeast q first → AreFirsts queues firsts
    → AreFirsts (set queues g q) (set firsts g first)
put_firsts queues firsts g q first most is old = record {
  few = let size = length-set queues g q in let few = old.few in omega arith;
  are = (λ i. set (old.are i) g (least_is q first most is i))
      ∙ sym (map-set least_number queues g q);
}
