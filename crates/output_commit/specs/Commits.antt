-- An action's outputs, as they are written to its place.
use Rattle.std.specs.Prelude.{ℕ, ◌<◌, List, [], ◌∷◌, length, take}
use Rattle.outside.specs.Causes.{Counts}
use Rattle.outside.specs.Lists.{Adds}
use Rattle.outside.specs.Told.{PlaceTold, SamePlace}
use Rattle.outside.specs.declared.place.PlaceWrite.{PlaceWrite}
use Rattle.output_commit.specs.declared.commits.Committed.{Committed}
use Rattle.output_commit.specs.declared.commits.Committed.TheVariants as committed

-- the outputs with their files, in order
abbrev pub writes_of : List (List ℕ) → List (List ℕ) → List PlaceWrite
writes_of [] files = []
writes_of (output ∷ outputs) [] = []
writes_of (output ∷ outputs) (file ∷ files) =
    record { path = output; bytes = file } ∷ writes_of outputs files

abbrev pub IsPlaceFault : Committed → Type 0
IsPlaceFault committed.Done = ⊥
IsPlaceFault (committed.PlaceFault written) = Unit {0}

-- how many of so many writes were done
abbrev pub written_of : ℕ → Committed → ℕ
written_of all committed.Done = all
written_of all (committed.PlaceFault written) = written

-- These outputs were written with their files, in order, and nothing else was: all of them, or the
-- first ones where the next one's write failed. Then the place's count rose.
pub record Commits (outputs files : List (List ℕ)) (end : Committed)
    (old new : PlaceTold) : Type 0 where
  pub log : Adds (take (written_of (length outputs) end) (writes_of outputs files)) old.log new.log
  pub fewer : IsPlaceFault end → written_of (length outputs) end < length outputs
  pub count : Counts old.faults new.faults (IsPlaceFault end)
  pub same : SamePlace old new
