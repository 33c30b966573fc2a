-- Lines that say what to look at.
use Rattle.std.specs.Prelude.{◌≡◌, ℕ, List, [], ◌∷◌, ◌++◌, All, Contains, codes}
use Rattle.std.specs.List.{flat_map}

-- a line as it is printed: behind two spaces, with a line feed
abbrev pub printed : List ℕ → List ℕ
printed line = codes "  " ++ line ++ 10 ∷ []

-- no byte is a line feed
abbrev pub IsOneLine : List ℕ → Type 0
IsOneLine line = ¬ Contains line 10

-- these are the lines of the text, each of them one line
abbrev pub AreLinesOf : List ℕ → List (List ℕ) → Type 0
AreLinesOf text lines = All IsOneLine lines × (text ≡ flat_map printed lines)

-- the text has lines alone, each behind two spaces and with a line feed at its end
abbrev pub AreBehind : List ℕ → Type 0
AreBehind text = ∥ ((lines : List (List ℕ)) × AreLinesOf text lines) ∥₁
