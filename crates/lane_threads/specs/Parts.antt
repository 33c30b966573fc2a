-- Some of one kind and at most one of another, in one list.
use Rattle.std.specs.Prelude.{◌≡◌, List, [], ◌∷◌, ◌++◌, map, Option, None, Some}
use Rattle.lane_threads.specs.declared.pair.Either.{Either}
use Rattle.lane_threads.specs.declared.pair.Either.TheVariants.{First, Second}

module _ {A B : Type 0} where
  -- the one beside alone, or nothing
  abbrev pub alone : Option B → List (Either A B)
  alone None = []
  alone (Some beside) = Second beside ∷ []

  -- the others, and the one beside behind them
  abbrev pub in_one_list : List A → Option B → List (Either A B)
  in_one_list others beside = map (λ other. First other) others ++ alone beside

  -- some are in this list, with none or one beside
  abbrev pub HasParts : List (Either A B) → Type 0
  HasParts all = (others : List A) × (beside : Option B) × (all ≡ in_one_list others beside)
