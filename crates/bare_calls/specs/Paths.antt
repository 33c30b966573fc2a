-- How paths are put together.
use Rattle.std.specs.Prelude.{ℕ, Bool, List, [], ◌∷◌, ◌++◌, ◌||◌, codes, if◌then◌else◌}
use Rattle.std.specs.List.{starts_with}
use Rattle.std.specs.Prelude.{nat_eq}
use Rattle.std.specs.Str.{bytes_eq}

abbrev pub slash : ℕ
slash = 47

-- the path of what has this name, or this path, in a folder
abbrev pub below : List ℕ → List ℕ → List ℕ
below folder name = folder ++ slash ∷ name

-- A program's path as the system is given it: one that begins with a slash as it is, another one from
-- the folder by which it is named.
abbrev pub program_from : List ℕ → List ℕ → List ℕ
program_from base program =
    if starts_with nat_eq program (slash ∷ []) then program else below base program

-- a folder's own name in itself, or that of the one above it
abbrev pub is_dots : List ℕ → Bool
is_dots name = bytes_eq name (codes ".") || bytes_eq name (codes "..")
