-- What comes out of the desk for a proxy lane, or comes back from it.
use Rattle.std.specs.Prelude.{◌≡◌, ℕ, Option, Some, None}
use Rattle.outside.specs.Launches.{IsNewChild}
use Rattle.outside.specs.Told.{ChildTold}
use Rattle.core_machine.specs.declared.shelf.Good.{Good}
use Rattle.core_machine.specs.declared.shelf.Good.TheVariants as good

module _ {K T P : Type 0} where
  abbrev pub child_good : Option (Good K T P) → Option K
  child_good (Some (good.Child k)) = Some k
  child_good _ = None

  abbrev pub line_child : Option (Good K T P) → Option K
  line_child (Some (good.Line k t)) = Some k
  line_child _ = None

  abbrev pub place_good : Option (Good K T P) → Option P
  place_good (Some (good.Place p)) = Some p
  place_good _ = None

-- the child of this line, not killed, or none where none lies there
abbrev pub IsChildThere : {K : Type 0} → (K → ChildTold) → Option ℕ → Option K → Type 0
IsChildThere told None child = child ≡ None
IsChildThere told (Some l) None = ⊥
IsChildThere told (Some l) (Some k) = IsNewChild l (told k)
