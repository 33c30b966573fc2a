-- How an action's argument words are split into a worker's start-up words and a request's words.
use Rattle.std.specs.Prelude.{◌≡◌, ◌≢◌, ℕ, Bool, not, ◌&&◌, ◌||◌, List, [], ◌∷◌, ◌++◌, Result, Ok, Err, length, nat_lt, nat_eq, codes, filter}
use Rattle.std.specs.List.{starts_with}
use Rattle.flag_files.specs.declared.splitting.Split.{Split}
use Rattle.flag_files.specs.declared.splitting.SplitFault.{SplitFault}
use Rattle.flag_files.specs.declared.splitting.SplitFault.TheVariants as fault

-- it begins so, and something follows
abbrev pub begins_longer : List ℕ → List ℕ → Bool
begins_longer word front = starts_with nat_eq word front && nat_lt (length front) (length word)

abbrev pub is_flag_file_word : List ℕ → Bool
is_flag_file_word word = begins_longer word (codes "@") || begins_longer word (codes "-flagfile=")
    || begins_longer word (codes "--flagfile=")

-- what a worker is told, so that it stays
unfoldable pub persistent_worker : List ℕ
persistent_worker = codes "--persistent_worker"

-- the program's name isn't looked at
abbrev pub request_words : List (List ℕ) → List (List ℕ)
request_words [] = []
request_words (program ∷ words) = filter is_flag_file_word words

abbrev pub startup_words : List (List ℕ) → List (List ℕ) → List (List ℕ)
startup_words [] extra = persistent_worker ∷ extra
startup_words (program ∷ words) extra =
    program ∷ filter (λ w. not (is_flag_file_word w)) words ++ persistent_worker ∷ extra

-- The two lists, or a refusal where there is no word for a request.
abbrev pub Splits : List (List ℕ) → List (List ℕ) → Result Split SplitFault → Type 0
Splits argv extra (Ok s) = (s.startup ≡ startup_words argv extra) × (s.request ≡ request_words argv)
    × (request_words argv ≢ [])
Splits argv extra (Err fault.NoFlagFile) = request_words argv ≡ []
Splits argv extra (Err fault.NoMemory) = Unit {0}
