-- What a command does on a shop, and what is answered to it.
use Rattle.std.specs.Prelude.{◌≡◌, ◌⊎◌, ℕ, List, [], ◌∷◌, ◌++◌, Option, Some, None, Result, Ok, Err}
use Rattle.plain_values.specs.declared.no_memory.NoMemory.{NoMemory}
use Rattle.outside.specs.declared.answers.Io.TheVariants as io
use Rattle.outside.specs.declared.floor.SourceFile.{SourceFile}
use Rattle.outside.specs.declared.shop.ShopCall.{ShopCall}
use Rattle.outside.specs.declared.shop.ShopCall.TheVariants as call
use Rattle.demo_worker.specs.declared.running.Answer.{Answer}
use Rattle.demo_worker.specs.Words.{inputs_of, output_of, exit_code}
use Rattle.demo_worker.specs.Looks.{Finds, Misses, file_fault, contents_of, cannot_write}

-- the output is put, where there is one
abbrev pub put_to : Option (List ℕ) → List ℕ → List ShopCall
put_to None bytes = []
put_to (Some path) bytes = call.Put path bytes io.Done ∷ []

-- Every input was found, and their contents were put at the output, where there is one.
pub record Copies (words : List (List ℕ)) (calls : List ShopCall) : Type 0 where
  pub files : List SourceFile
  pub looks : List ShopCall
  pub finds : Finds file_fault (inputs_of words) files [] looks
  pub all : calls ≡ looks ++ put_to (output_of words) (contents_of files)

-- Or every input was found, and then the output couldn't be put, and this is said of it.
pub record CannotPut (words : List (List ℕ)) (text : List ℕ) (calls : List ShopCall)
    : Type 0 where
  pub files : List SourceFile
  pub looks : List ShopCall
  pub path : List ℕ
  pub finds : Finds file_fault (inputs_of words) files [] looks
  pub output : output_of words ≡ Some path
  pub says : text ≡ cannot_write path
  pub all : calls ≡ looks ++ call.Put path (contents_of files) io.Failed ∷ []

-- One call, the last, didn't go well, and this is said of it.
abbrev pub Stops : List (List ℕ) → List ℕ → List ShopCall → Type 0
Stops words text calls =
    Misses file_fault (inputs_of words) text calls ⊎ CannotPut words text calls

abbrev pub copied : List (List ℕ) → Answer
copied words = record { exit_code = exit_code words; text = [] }

abbrev pub stopped : List ℕ → Answer
stopped text = record { exit_code = 1; text = text }

-- A command made these calls, and this is answered to it.
abbrev pub Does : List (List ℕ) → Answer → List ShopCall → Type 0
Does words a calls =
    (Copies words calls × (a ≡ copied words)) ⊎ (Stops words a.text calls × (a ≡ stopped a.text))

-- these are the first of the calls that a command makes, or all of them
abbrev pub Begins : List (List ℕ) → List ShopCall → Type 0
Begins words calls = (a : Answer) × (more : List ShopCall) × Does words a (calls ++ more)

-- where memory ran out it had begun
abbrev pub Comes : List (List ℕ) → Result Answer NoMemory → List ShopCall → Type 0
Comes words (Ok a) calls = Does words a calls
Comes words (Err e) calls = Begins words calls
