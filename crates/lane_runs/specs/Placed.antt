-- Things with the numbers of their lines, and the places of these lines.
use Rattle.std.specs.Prelude.{◌≡◌, ℕ, List, [], ◌∷◌, length, Option, Some, None, slice_index_or, slice_set}
use Rattle.lane_laws.specs.Numbers.{In}

-- a thing of a line
pub record Numbered (T : Type 0) : Type 0 where
  pub line : ℕ
  pub thing : T

-- the places once each of these things was put at its line's
abbrev pub placed_all : {T : Type 0} → List (Option T) → List (Numbered T) → List (Option T)
placed_all places [] = places
placed_all places (x ∷ xs) = placed_all (slice_set places x.line (Some x.thing)) xs

-- there is one place for each line, in order, and each thing stands at its line's, and nothing else
pub record IsPlaced {T : Type 0} (count : ℕ) (things : List (Numbered T))
    (places : List (Option T)) : Type 0 where
  pub as_many : length places ≡ count
  pub all : (x : Numbered T) → In x things → slice_index_or places x.line None ≡ Some x.thing
  pub only : (l : ℕ) (t : T) → slice_index_or places l None ≡ Some t
      → In (record { line = l; thing = t }) things
