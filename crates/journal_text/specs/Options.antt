-- A value or nothing.
use Rattle.std.specs.Prelude.{List, [], ◌∷◌, Option, Some, None}

infixl 10 ◌>>=◌
-- what follows where there is a value
abbrev pub ◌>>=◌ : {A B : Type 0} → Option A → (A → Option B) → Option B
(Some x) >>= f = f x
None >>= f = None

-- each one's value, where each has one
abbrev pub each : {A B : Type 0} → (A → Option B) → List A → Option (List B)
each f [] = Some []
each f (x ∷ xs) = f x >>= λ y. (each f xs >>= λ ys. Some (y ∷ ys))
