-- Files that are looked at, one after another, up to the first that can't be had.
use Rattle.std.specs.Prelude.{◌≡◌, ℕ, List, [], ◌∷◌, ◌++◌, map, codes, Option, Some, None}
use Rattle.std.specs.Prelude.{if◌then◌else◌}
use Rattle.std.specs.List.{All, flat_map}
use Rattle.std.specs.Str.{is_utf8}
use Rattle.outside.specs.declared.answers.Read.{Read}
use Rattle.outside.specs.declared.answers.Read.TheVariants as read
use Rattle.outside.specs.declared.floor.SourceFile.{SourceFile}
use Rattle.outside.specs.declared.shop.ShopCall.{ShopCall}
use Rattle.outside.specs.declared.shop.ShopCall.TheVariants as call

abbrev pub found : SourceFile → ShopCall
found file = call.Get file.path (read.Found file.bytes)

abbrev pub paths_of : List SourceFile → List (List ℕ)
paths_of files = map (λ f. f.path) files

-- their bytes, one file after the other
abbrev pub contents_of : List SourceFile → List ℕ
contents_of files = flat_map (λ f. f.bytes) files

unfoldable pub missing : List ℕ → List ℕ
missing path = codes "missing: " ++ path

unfoldable pub cannot_read : List ℕ → List ℕ
cannot_read path = codes "cannot read: " ++ path

unfoldable pub cannot_write : List ℕ → List ℕ
cannot_write path = codes "cannot write: " ++ path

-- what is said where a file can't be had by such an answer
abbrev pub file_fault : List ℕ → Read → Option (List ℕ)
file_fault path (read.Found bytes) = None
file_fault path read.Absent = Some (missing path)
file_fault path read.Failed = Some (cannot_read path)

-- a file that isn't text counts as missing, where its lines are wanted
abbrev pub text_fault : List ℕ → Read → Option (List ℕ)
text_fault path (read.Found bytes) = if is_utf8 bytes then None else Some (missing path)
text_fault path read.Absent = Some (missing path)
text_fault path read.Failed = Some (cannot_read path)

module _ (fault : List ℕ → Read → Option (List ℕ)) where
  abbrev pub IsHad : SourceFile → Type 0
  IsHad file = fault file.path (read.Found file.bytes) ≡ None

  -- These files were had from the first of the paths, in order; the other paths are left.
  pub record Finds (paths : List (List ℕ)) (files : List SourceFile) (left : List (List ℕ))
      (looks : List ShopCall) : Type 0 where
    pub first : paths ≡ paths_of files ++ left
    pub had : All IsHad files
    pub made : looks ≡ map found files

  -- Then one couldn't be had, and this is said of it.
  pub record Misses (paths : List (List ℕ)) (text : List ℕ) (looks : List ShopCall)
      : Type 0 where
    pub files : List SourceFile
    pub path : List ℕ
    pub left : List (List ℕ)
    pub before : List ShopCall
    pub answer : Read
    pub finds : Finds paths files (path ∷ left) before
    pub says : fault path answer ≡ Some text
    pub all : looks ≡ before ++ call.Get path answer ∷ []
