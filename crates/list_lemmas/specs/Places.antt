-- A list with the element at one place changed.
use Rattle.std.specs.Prelude.{ℕ, zero, suc, List, [], ◌∷◌, Option, Some, None}

-- the element at a place changed
abbrev pub update : {X : Type 0} → (X → X) → List X → ℕ → List X
update g [] i = []
update g (x ∷ xs) zero = g x ∷ xs
update g (x ∷ xs) (suc i) = x ∷ update g xs i

abbrev pub update_if : {X : Type 0} → (X → X) → List X → Option ℕ → List X
update_if g xs (Some i) = update g xs i
update_if g xs None = xs
