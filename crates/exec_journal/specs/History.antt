-- What was so at some entry of a journal. The newest entry stands first: what is behind an entry
-- came before it.
use Rattle.std.specs.Prelude.{Bool, false, ◌||◌, List, [], ◌∷◌, Option, Some, None}
use Rattle.exec_journal.specs.Entry.{Entry}
use Rattle.list_lemmas.specs.Options.{or_else, unless_before, and_more}

-- at some entry, with what came before it, the test holds
abbrev pub ever : (List Entry → Entry → Bool) → List Entry → Bool
ever p [] = false
ever p (e ∷ j) = p j e || ever p j

-- what the newest entry at which there is something gives
abbrev pub latest : {X : Type 0} → (List Entry → Entry → Option X) → List Entry → Option X
latest f [] = None
latest f (e ∷ j) = or_else (f j e) (latest f j)

-- what the oldest entry at which there is something gives
abbrev pub first : {X : Type 0} → (List Entry → Entry → Option X) → List Entry → Option X
first f [] = None
first f (e ∷ j) = unless_before (f j e) (first f j)

-- all that entries give, the newest first
abbrev pub each : {X : Type 0} → (List Entry → Entry → Option X) → List Entry → List X
each f [] = []
each f (e ∷ j) = and_more (f j e) (each f j)

-- it holds of each entry, with what came before it
abbrev pub AtEach : (List Entry → Entry → Type 0) → List Entry → Type 0
AtEach P [] = Unit {0}
AtEach P (e ∷ j) = AtEach P j × P j e
