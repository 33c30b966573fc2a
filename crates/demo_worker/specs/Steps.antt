-- What the steps of a command do.
use Rattle.std.specs.Prelude.{◌≡◌, ◌⊎◌, ℕ, List, [], ◌∷◌, Option, Some, None, Result, Ok, Err}
use Rattle.std.specs.Global.{Vec}
use Rattle.std.specs.Str.Lines.{lines}
use Rattle.outside.specs.declared.answers.Io.TheVariants as io
use Rattle.outside.specs.declared.answers.Read.{Read}
use Rattle.outside.specs.declared.answers.Read.TheVariants as read
use Rattle.outside.specs.declared.floor.SourceFile.{SourceFile}
use Rattle.outside.specs.declared.shop.ShopCall.{ShopCall}
use Rattle.outside.specs.declared.shop.ShopCall.TheVariants as call
use Rattle.demo_worker.specs.declared.stop.Stop.{Stop}
use Rattle.demo_worker.specs.declared.stop.Stop.TheVariants as stop
use Rattle.demo_worker.specs.Words.{inputs_of}
use Rattle.demo_worker.specs.Looks.{Finds, Misses, file_fault, text_fault, contents_of, cannot_write}
use Rattle.demo_worker.specs.Does.{Copies, Stops, Begins}
use Rattle.demo_worker.specs.Once.{expanded}
use Rattle.demo_worker.specs.Words.{flag_files_of}

module _ (fault : List ℕ → Read → Option (List ℕ)) where
  -- the file is there with these bytes, and isn't refused
  abbrev pub Has : List ℕ → List ℕ → List ShopCall → Type 0
  Has path bytes looks = (fault path (read.Found bytes) ≡ None)
      × (looks ≡ call.Get path (read.Found bytes) ∷ [])

  -- it can't be had, and this is said of it
  abbrev pub Lacks : List ℕ → List ℕ → List ShopCall → Type 0
  Lacks path text looks = (answer : Read) × (fault path answer ≡ Some text)
      × (looks ≡ call.Get path answer ∷ [])

  -- memory ran out, before the look or behind it
  abbrev pub Tries : List ℕ → List ShopCall → Type 0
  Tries path looks = (looks ≡ [])
      ⊎ (((bytes : List ℕ) × Has path bytes looks) ⊎ ((text : List ℕ) × Lacks path text looks))

  abbrev pub FailsAt : List ℕ → Stop → List ShopCall → Type 0
  FailsAt path (stop.Says text) looks = Lacks path text looks
  FailsAt path stop.NoMemory looks = Tries path looks

  -- the first of the paths were looked at
  abbrev pub LooksFirst : List (List ℕ) → List ShopCall → Type 0
  LooksFirst paths looks =
      ((files : List SourceFile) × (left : List (List ℕ)) × Finds fault paths files left looks)
      ⊎ ((text : List ℕ) × Misses fault paths text looks)

  abbrev pub FailsIn : List (List ℕ) → Stop → List ShopCall → Type 0
  FailsIn paths (stop.Says text) looks = Misses fault paths text looks
  FailsIn paths stop.NoMemory looks = LooksFirst paths looks

-- a file's bytes
abbrev pub Looks : List ℕ → Result (List ℕ) Stop → List ShopCall → Type 0
Looks path (Ok bytes) looks = Has file_fault path bytes looks
Looks path (Err s) looks = FailsAt file_fault path s looks

-- a file's lines
abbrev pub LooksIn : List ℕ → Result (Vec (List ℕ)) Stop → List ShopCall → Type 0
LooksIn path (Ok ls) looks =
    (bytes : List ℕ) × Has text_fault path bytes looks × (ls.items ≡ lines bytes)
LooksIn path (Err s) looks = FailsAt text_fault path s looks

-- the contents of these files
abbrev pub Gathers : List (List ℕ) → Result (Vec ℕ) Stop → List ShopCall → Type 0
Gathers paths (Ok bytes) looks = (files : List SourceFile)
    × Finds file_fault paths files [] looks × (bytes.items ≡ contents_of files)
Gathers paths (Err s) looks = FailsIn file_fault paths s looks

-- the words with the lines of their files
abbrev pub ExpandsTo : List (List ℕ) → Result (Vec (List ℕ)) Stop → List ShopCall → Type 0
ExpandsTo words (Ok ws) looks = (files : List SourceFile)
    × Finds text_fault (flag_files_of words) files [] looks × (ws.items ≡ expanded words files)
ExpandsTo words (Err s) looks = FailsIn text_fault (flag_files_of words) s looks

-- a file is put
abbrev pub Puts : List ℕ → List ℕ → Result (Unit {0}) Stop → List ShopCall → Type 0
Puts path bytes (Ok done) calls = calls ≡ call.Put path bytes io.Done ∷ []
Puts path bytes (Err (stop.Says text)) calls =
    (text ≡ cannot_write path) × (calls ≡ call.Put path bytes io.Failed ∷ [])
Puts path bytes (Err stop.NoMemory) calls = calls ≡ call.Put path bytes io.Failed ∷ []

abbrev pub CopiesSo : List (List ℕ) → Result (Unit {0}) Stop → List ShopCall → Type 0
CopiesSo words (Ok done) calls = Copies words calls
CopiesSo words (Err (stop.Says text)) calls = Stops words text calls
CopiesSo words (Err stop.NoMemory) calls = Begins words calls
