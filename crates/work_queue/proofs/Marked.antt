-- A list whose elements are changed one after another.
use Rattle.std.proofs.Common.{◌≡◌, ℕ, zero, suc, ◌+◌, ◌<◌, List, [], ◌∷◌, length, get_or, set, refl}
use Rattle.std.proofs.Common.{ap, ◌∙◌, arith}
use Rattle.std.specs.Prelude.{map}

abbrev pub map_first : {X : Type 0} → (X → X) → ℕ → List X → List X
map_first g zero xs = xs
map_first g (suc n) [] = []
map_first g (suc n) (x ∷ xs) = g x ∷ map_first g n xs

pub map_first_step : {X : Type 0} (g : X → X) (n : ℕ) (xs : List X) (d : X) → n < length xs
    → set (map_first g n xs) n (g (get_or (map_first g n xs) n d)) ≡ map_first g (n + 1) xs
map_first_step g n [] d lt = absurd (omega arith)
map_first_step g zero (x ∷ xs) d lt = refl
map_first_step {X} g (suc n) (x ∷ xs) d lt =
    let below : n < length xs = omega arith in
    let e : suc (n + 1) ≡ suc n + 1 = omega arith in
    ap (λ (ys : List X). g x ∷ ys) (map_first_step g n xs d below)
    ∙ ap (λ m. map_first g m (x ∷ xs)) e

pub map_first_all : {X : Type 0} (g : X → X) (xs : List X)
    → map_first g (length xs) xs ≡ map g xs
map_first_all g [] = refl
map_first_all {X} g (x ∷ xs) = ap (λ (ys : List X). g x ∷ ys) (map_first_all g xs)
