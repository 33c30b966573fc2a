-- What stands at a place after one is written.
use Rattle.std.proofs.Common.{◌≡◌, ℕ, zero, suc, ◌<◌, ◌≢◌, List, [], ◌∷◌, length, get_or, set, Some, inl, inr, refl, ap, sym, ◌∙◌, arith, length-set}
use Rattle.std.specs.Prelude.{slice_get, option_and_then}
use Rattle.std.proofs.lemmas.Bool.{cases_eq, cases_lt}
use Rattle.std.proofs.lemmas.List.{set_past}
use Rattle.std.proofs.lemmas.Option.{slice_get-get_or}
use Rattle.ready_order.specs.Board.{place}

pub set_here : {X : Type 0} (xs : List X) (k : ℕ) (v : X) → k < length xs
    → slice_get (set xs k v) k ≡ Some v
set_here [] k v lt = absurd (omega arith)
set_here (x ∷ xs) zero v lt = refl
set_here (x ∷ xs) (suc k) v lt = set_here xs k v (omega arith)

pub set_beside : {X : Type 0} (xs : List X) (k l : ℕ) (v : X) → l ≢ k
    → slice_get (set xs k v) l ≡ slice_get xs l
set_beside [] k l v apart = refl
set_beside (x ∷ xs) zero zero v apart = absurd (apart refl)
set_beside (x ∷ xs) zero (suc l) v apart = refl
set_beside (x ∷ xs) (suc k) zero v apart = refl
set_beside (x ∷ xs) (suc k) (suc l) v apart = set_beside xs k l v (λ e. apart (ap suc e))

-- ---- the queues

-- a number written into the queue of a group
abbrev pub written : List (List ℕ) → ℕ → ℕ → ℕ → List (List ℕ)
written queues g a v = set queues g (set (get_or queues g []) a v)

pub written_here : (queues : List (List ℕ)) (g a v : ℕ) → g < length queues
    → a < length (get_or queues g []) → place (written queues g a v) g a ≡ Some v
written_here queues g a v lt within =
    ap (option_and_then (λ q. slice_get q a)) (set_here queues g (set (get_or queues g []) a v) lt)
    ∙ set_here (get_or queues g []) a v within

pub written_beside : (queues : List (List ℕ)) (g a v c : ℕ) (k : ℕ) → c ≢ a
    → place (written queues g a v) k c ≡ place queues k c
written_beside queues g a v c k apart =
    elim (cases_eq k g) [
      | inl same ↦ elim (cases_lt g (length queues)) [
        | inl lt ↦
            rw (same) (ap (option_and_then (λ q. slice_get q c)) (set_here queues g (set
            (get_or queues g []) a v) lt)
            ∙ set_beside (get_or queues g []) a c v apart
            ∙ sym (ap (option_and_then (λ q. slice_get q c)) (slice_get-get_or queues g [] lt)))
        | inr past ↦ ap (λ (qs : List (List ℕ)). place qs k c) (set_past queues g _ past)
      ]
      | inr other ↦
          ap (option_and_then (λ q. slice_get q c)) (set_beside queues g k (set
          (get_or queues g []) a v) other)
    ]

pub written_elsewhere : (queues : List (List ℕ)) (g a v k c : ℕ) → k ≢ g
    → place (written queues g a v) k c ≡ place queues k c
written_elsewhere queues g a v k c other =
    ap (option_and_then (λ q. slice_get q c)) (set_beside queues g k (set
    (get_or queues g []) a v) other)

-- each queue keeps its length
pub written_sizes : (queues : List (List ℕ)) (g a v n : ℕ)
    → ((k : ℕ) (q : List ℕ) → slice_get queues k ≡ Some q → length q ≡ n)
    → (k : ℕ) (q : List ℕ) → slice_get (written queues g a v) k ≡ Some q → length q ≡ n
written_sizes queues g a v n sizes k q h =
    elim (cases_eq k g) [
      | inl same ↦ elim (cases_lt g (length queues)) [
        | inl lt ↦
            (let is : slice_get (written queues g a v) g ≡ Some (set (get_or queues g []) a v) =
            set_here queues g _ lt in
            let here : slice_get (written queues g a v) g ≡ Some q = rw same at h in
            let e : q ≡ set (get_or queues g []) a v = cc in
            ap length e ∙ length-set (get_or queues g []) a v ∙ sizes g (get_or queues g [])
            (slice_get-get_or queues g [] lt))
        | inr past ↦
            (let none : written queues g a v ≡ queues = set_past queues g _ past in
            sizes k q (sym (ap (λ (qs : List (List ℕ)). slice_get qs k) none) ∙ h))
      ]
      | inr other ↦ sizes k q (sym (set_beside queues g k (set (get_or queues g []) a v) other) ∙ h)
    ]
