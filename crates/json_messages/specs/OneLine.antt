-- Texts without a line feed.
use Rattle.std.specs.Prelude.{◌≡◌, ◌==◌, ℕ, Bool, true, not, List}
use Rattle.std.specs.List.{list_all}

abbrev pub in_line : ℕ → Bool
in_line b = not (b == 10)

-- no byte is a line feed
abbrev pub IsOneLine : List ℕ → Type 0
IsOneLine s = list_all in_line s ≡ true
