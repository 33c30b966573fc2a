-- Optional values, one after the other.
use Rattle.std.specs.Prelude.{List, ◌∷◌, Option, Some, None}

-- the first of the two that is there
abbrev pub or_else : {X : Type 0} → Option X → Option X → Option X
or_else (Some x) o = Some x
or_else None o = o

-- what is new, unless there was something before. It looks at what is new first: where that is
-- nothing it computes away
abbrev pub unless_before : {X : Type 0} → Option X → Option X → Option X
unless_before None o = o
unless_before (Some x) None = Some x
unless_before (Some x) (Some y) = Some y

-- in front of a list, where there is one
abbrev pub and_more : {X : Type 0} → Option X → List X → List X
and_more (Some x) xs = x ∷ xs
and_more None xs = xs
