-- What a command does of which words may stand for the lines of files.
use Rattle.std.specs.Prelude.{◌≡◌, ◌⊎◌, ℕ, List, [], ◌∷◌, ◌++◌, drop, is_some, if◌then◌else◌}
use Rattle.std.specs.Prelude.{Result, Ok, Err}
use Rattle.std.specs.Str.Lines.{lines}
use Rattle.plain_values.specs.declared.no_memory.NoMemory.{NoMemory}
use Rattle.outside.specs.declared.floor.SourceFile.{SourceFile}
use Rattle.outside.specs.declared.shop.ShopCall.{ShopCall}
use Rattle.demo_worker.specs.declared.running.Answer.{Answer}
use Rattle.demo_worker.specs.Words.{flag_file_in, flag_files_of}
use Rattle.demo_worker.specs.Looks.{Finds, Misses, text_fault}
use Rattle.demo_worker.specs.Does.{Does, stopped}

abbrev pub first_lines : List SourceFile → List (List ℕ)
first_lines [] = []
first_lines (f ∷ fs) = lines f.bytes

-- the words, each that stands for a file replaced by the lines of the next of these
abbrev pub expanded : List (List ℕ) → List SourceFile → List (List ℕ)
expanded [] files = []
expanded (w ∷ ws) files =
    if is_some (flag_file_in w)
    then first_lines files ++ expanded ws (drop 1 files)
    else w ∷ expanded ws files

-- Every such file was had, and then the expanded words were done.
pub record Expands (words : List (List ℕ)) (a : Answer) (calls : List ShopCall) : Type 0 where
  pub files : List SourceFile
  pub looks : List ShopCall
  pub later : List ShopCall
  pub finds : Finds text_fault (flag_files_of words) files [] looks
  pub does : Does (expanded words files) a later
  pub all : calls ≡ looks ++ later

-- A command made these calls, and this is answered to it.
abbrev pub DoesOnce : List (List ℕ) → Answer → List ShopCall → Type 0
DoesOnce words a calls =
    Expands words a calls
    ⊎ (Misses text_fault (flag_files_of words) a.text calls × (a ≡ stopped a.text))

abbrev pub BeginsOnce : List (List ℕ) → List ShopCall → Type 0
BeginsOnce words calls = (a : Answer) × (more : List ShopCall) × DoesOnce words a (calls ++ more)

abbrev pub ComesOnce : List (List ℕ) → Result Answer NoMemory → List ShopCall → Type 0
ComesOnce words (Ok a) calls = DoesOnce words a calls
ComesOnce words (Err e) calls = BeginsOnce words calls
