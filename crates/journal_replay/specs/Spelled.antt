-- What the lines of a text spell.
use Rattle.std.specs.Prelude.{◌≡◌, ℕ, suc, is_some, if◌then◌else◌, List, [], ◌∷◌, Option, Some, None}
use Rattle.exec_journal.specs.Entry.{Entry}
use Rattle.journal_text.specs.Lines.{entry_of}
use Rattle.journal_text.specs.Options.{each}

-- the first line spells the basis, and the others spell the entries, in order
pub record Spells {B : Type 0} (spelled : List ℕ → Option B) (lines : List (List ℕ)) (b : B)
    (j : List Entry) : Type 0 where
  pub top : List ℕ
  pub rest : List (List ℕ)
  pub lines_are : lines ≡ top ∷ rest
  pub basis : spelled top ≡ Some b
  pub entries : each entry_of rest ≡ Some j

-- the first line that spells no entry, where the first of these has this number
abbrev pub bad_entry : ℕ → List (List ℕ) → Option ℕ
bad_entry n [] = None
bad_entry n (l ∷ ls) = if is_some (entry_of l) then bad_entry (suc n) ls else Some n

-- the first line, from 1, that doesn't spell what it should; where there is no line, the first
abbrev pub bad_line : {B : Type 0} → (List ℕ → Option B) → List (List ℕ) → Option ℕ
bad_line spelled [] = Some 1
bad_line spelled (l ∷ ls) = if is_some (spelled l) then bad_entry 2 ls else Some 1
