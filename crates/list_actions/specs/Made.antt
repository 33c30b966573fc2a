-- What an action's inputs are made by.
use Rattle.std.specs.Prelude.{ℕ, ◌+◌, if◌then◌else◌, List, [], ◌∷◌, Option, Some, None}
use Rattle.std.specs.Str.{bytes_eq}
use Rattle.run_plan.specs.declared.plan.Maker.{Maker}
use Rattle.list_actions.specs.declared.types.ListAction.{ListAction}

-- The place of the path among these outputs of action a, the first of which has number j, or else
-- what was found before.
abbrev pub producer_in : Option Maker → List ℕ → ℕ → ℕ → List (List ℕ) → Option Maker
producer_in found p a j [] = found
producer_in found p a j (u ∷ us) = producer_in
    (if bytes_eq u p then Some (record { action = a; output = j }) else found) p a (j + 1) us

abbrev pub producer_from : Option Maker → List ℕ → ℕ → List ListAction → Option Maker
producer_from found p a [] = found
producer_from found p a (x ∷ xs) = producer_from (producer_in found p a 0 x.outputs) p (a + 1) xs

-- The action among these, from the first of the list on, that makes the path, and which output it
-- is. In a list without faults there is at most one.
abbrev pub maker_of : List ListAction → List ℕ → Option Maker
maker_of before p = producer_from None p 0 before
