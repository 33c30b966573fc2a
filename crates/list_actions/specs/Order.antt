-- What holds between the actions of a list: names, outputs and the inputs that others make.
use Rattle.std.specs.Prelude.{ℕ, ◌+◌, List, [], ◌∷◌, ◌++◌, length, nat_le, Bool, false, if◌then◌else◌, Option, Some, None, find, Ok, Err}
use Rattle.std.specs.List.{list_any, flat_map}
use Rattle.std.specs.Str.{bytes_eq}
use Rattle.list_actions.specs.declared.faults.ListFault.TheVariants as fault
use Rattle.list_actions.specs.declared.types.ListAction.{ListAction}
use Rattle.list_actions.specs.Answers.{Check, first}

-- this text is one of them
abbrev pub is_among : List (List ℕ) → List ℕ → Bool
is_among ts t = list_any (λ u. bytes_eq u t) ts

abbrev pub outputs_of : List ListAction → List (List ℕ)
outputs_of xs = flat_map (λ x. x.outputs) xs

abbrev pub name_twice : ℕ → List ListAction → ListAction → Check
name_twice a before x =
    if list_any (λ y. bytes_eq y.name x.name) before then Err (fault.TwiceNamed a) else Ok tt

-- the first path that stands among those made before, or at an earlier place
abbrev pub first_again : List (List ℕ) → List (List ℕ) → Option (List ℕ)
first_again made [] = None
first_again made (p ∷ ps) = if is_among made p then Some p else first_again (made ++ p ∷ []) ps

abbrev pub made_twice : ℕ → Option (List ℕ) → Check
made_twice a None = Ok tt
made_twice a (Some path) = Err (fault.TwiceMade a path)

abbrev pub made_later : ℕ → Option (List ℕ) → Check
made_later a None = Ok tt
made_later a (Some path) = Err (fault.MadeLater a path)

-- The faults of one action: those before it, itself, and it with all that follow.
abbrev pub order_check : List ListAction → ListAction → List ListAction → Check
order_check before x rest =
    first (name_twice (length before) before x
    ∷ made_twice (length before) (first_again (outputs_of before) x.outputs)
    ∷ made_later (length before) (find (is_among (outputs_of rest)) x.inputs)
    ∷ [])

-- the first fault of the actions that follow these
abbrev pub orders_check : List ListAction → List ListAction → Check
orders_check before [] = Ok tt
orders_check before (x ∷ xs) =
    first (order_check before x (x ∷ xs) ∷ orders_check (before ++ x ∷ []) xs ∷ [])

-- ---- how the code looks for inputs that are made later

abbrev pub or_maker : Option ℕ → Option ℕ → Option ℕ
or_maker None here = here
or_maker (Some later) here = Some later

-- the number of the last of these actions that makes the path, where the first has number a
abbrev pub last_from : ℕ → List ListAction → List ℕ → Option ℕ
last_from a [] q = None
last_from a (x ∷ xs) q =
    or_maker (last_from (a + 1) xs q) (if is_among x.outputs q then Some a else None)

-- the last maker has this number or a later one
abbrev pub is_late : ℕ → Option ℕ → Bool
is_late a None = false
is_late a (Some last) = nat_le a last
