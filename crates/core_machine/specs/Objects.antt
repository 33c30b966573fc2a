-- What the objects on the shelf tell.
use Rattle.std.specs.Prelude.{◌≡◌, ℕ, ◌<◌, List, [], length, take, slice_get, Some}
use Rattle.exec_journal.specs.declared.call.CommitEnd.{CommitEnd}
use Rattle.exec_journal.specs.declared.call.CommitEnd.TheVariants as end
use Rattle.outside.specs.Lists.{Tells}
use Rattle.outside.specs.Told.{PlaceTold}
use Rattle.outside.specs.declared.place.PlaceWrite.{PlaceWrite}
use Rattle.output_commit.specs.Commits.{writes_of}
use Rattle.core_contract.specs.Shelf.{Spot, Fresh, Away, Back}

-- these writes were done, or, where one failed, fewer of them: the first so many
abbrev pub WroteAs : CommitEnd → List PlaceWrite → PlaceTold → Type 0
WroteAs end.Done all place = Tells place.log all
WroteAs (end.PlaceFault k) all place =
    Tells place.log (take k all) × (k < length all) × (0 < place.faults)

-- What was done to a place with these outputs by the time it lies there. One that is away doesn't.
abbrev pub WroteBy : List (List ℕ) → Spot → PlaceTold → Type 0
WroteBy outputs Fresh place = Tells place.log []
WroteBy outputs (Away files) place = ⊥
WroteBy outputs (Back files how) place = WroteAs how (writes_of outputs files) place

-- the place of the action with these outputs, in this spot
pub record IsPlaceAt (action : ℕ) (outputs : List (List ℕ)) (spot : Spot) (place : PlaceTold)
    : Type 0 where
  pub of_action : place.number ≡ action
  pub wrote : WroteBy outputs spot place

-- a place for each of so many actions, in their order, to which nothing was written
pub record AreFresh {P : Type 0} (told : P → PlaceTold) (actions : ℕ) (places : List P)
    : Type 0 where
  pub as_many : length places ≡ actions
  pub numbers : (a : ℕ) (p : P) → slice_get places a ≡ Some p → (told p).number ≡ a
  pub unwritten : (a : ℕ) (p : P) → slice_get places a ≡ Some p → Tells (told p).log []
