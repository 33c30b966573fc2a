-- How the words of a request are expanded.
use Rattle.std.specs.Prelude.{◌≡◌, ℕ, zero, suc, Bool, false, not, ◌&&◌, ◌||◌, List, [], ◌∷◌, ◌++◌, Option, Some, None, Result, Ok, Err, length, drop, nat_lt, nat_le, nat_eq, codes, sum_by, if◌then◌else◌}
use Rattle.std.specs.List.{starts_with, flat_map}
use Rattle.std.specs.Str.{is_utf8}
use Rattle.std.specs.Str.Lines.{lines}
use Rattle.std.specs.Global.{Vec}
use Rattle.outside.specs.declared.floor.SourceFile.{SourceFile}
use Rattle.outside.specs.Floor.{file_at}
use Rattle.flag_files.specs.declared.expanding.FlagFault.{FlagFault}
use Rattle.flag_files.specs.declared.expanding.FlagFault.TheVariants as fault

abbrev pub has_double_slash : List ℕ → Bool
has_double_slash [] = false
has_double_slash (b ∷ bs) = starts_with nat_eq (b ∷ bs) (codes "//") || has_double_slash bs

-- the word is one that is replaced by the lines of a file
abbrev pub names_file : List ℕ → Bool
names_file word = starts_with nat_eq word (codes "@") && nat_lt 1 (length word)
    && not (starts_with nat_eq word (codes "@@")) && not (has_double_slash word)

-- the path of the file that the word names
abbrev pub file_name : List ℕ → Option (List ℕ)
file_name word = if names_file word then Some (drop 1 word) else None

-- the bytes of a file where they are text
abbrev pub text_or_fault : List ℕ → Option (List ℕ) → Result (List ℕ) FlagFault
text_or_fault path None = Err (fault.NoSuchFile path)
text_or_fault path (Some bytes) = if is_utf8 bytes then Ok bytes else Err (fault.NotText path)

abbrev pub file_text : List SourceFile → List ℕ → Result (List ℕ) FlagFault
file_text files path = text_or_fault path (file_at files path)

-- what the walk from the left meets: a word that stays, or a place where it stops
pub data Step : Type 0 where
  stays : List ℕ → Step
  stops : FlagFault → Step

abbrev pub steps_of_text : (List ℕ → List Step) → Result (List ℕ) FlagFault → List Step
steps_of_text steps_of_line (Ok text) = flat_map steps_of_line (lines text)
steps_of_text steps_of_line (Err f) = stops f ∷ []

abbrev pub steps_of_word : List ℕ → Option (List ℕ) → (List ℕ → List Step) → List Step
steps_of_word w None steps_of_file = stays w ∷ []
steps_of_word w (Some path) steps_of_file = steps_of_file path

-- a word's steps, where a file may still name files this many levels deep
unfoldable pub steps : ℕ → List SourceFile → List ℕ → List Step
steps zero files w = steps_of_word w (file_name w) (λ path. stops (fault.TooDeep path) ∷ [])
steps (suc levels) files w = steps_of_word w (file_name w)
    (λ path. steps_of_text (steps levels files) (file_text files path))

-- so many words with so many bytes are not too many
abbrev pub fits : List (List ℕ) → Bool
fits words = nat_le (length words) 262144 && nat_le (sum_by length words) 16777216

-- the words of the walk, after those that it has given before, or the first fault
abbrev pub walk : List (List ℕ) → List Step → Result (List (List ℕ)) FlagFault
walk before [] = Ok before
walk before (stops f ∷ later) = Err f
walk before (stays w ∷ later) =
    if fits (before ++ w ∷ []) then walk (before ++ w ∷ []) later else Err fault.TooManyWords

abbrev pub max_depth : ℕ
max_depth = 16

abbrev pub expansion : List (List ℕ) → List SourceFile → Result (List (List ℕ)) FlagFault
expansion words files = walk [] (flat_map (steps max_depth files) words)

-- this fault is what is due; lack of memory may always stand in its place
abbrev pub Refuses : {A : Type 0} → FlagFault → Result A FlagFault → Type 0
Refuses fault.NoMemory due = Unit {0}
Refuses (fault.NoSuchFile path) due = due ≡ Err (fault.NoSuchFile path)
Refuses (fault.TooDeep path) due = due ≡ Err (fault.TooDeep path)
Refuses (fault.NotText path) due = due ≡ Err (fault.NotText path)
Refuses fault.TooManyWords due = due ≡ Err fault.TooManyWords

-- After a part of the walk these are the words, or its fault is answered.
abbrev pub Answers : Result (Unit {0}) FlagFault → List (List ℕ) → Result (List (List ℕ)) FlagFault
    → Type 0
Answers (Ok done) now due = due ≡ Ok now
Answers (Err f) now due = Refuses f due

abbrev pub AnswersAll : Result (Vec (List ℕ)) FlagFault → Result (List (List ℕ)) FlagFault → Type 0
AnswersAll (Ok words) due = due ≡ Ok words.items
AnswersAll (Err f) due = Refuses f due
