-- What is read of the tokens of a JSON text: the value that comes next, or the elements up to the
-- bracket that closes their array. The tokens behind it are left.
use Rattle.std.specs.Prelude.{◌≡◌, ℕ, ℤ, ◌≤◌, List, [], ◌∷◌, length, Option, Some, None, option_map, Result, Ok, Err}
use Rattle.json.specs.Json.{after_end_array, items, parse_map, value}
use Rattle.json.specs.Token.{Token}
use Rattle.json.specs.Token as token
use Rattle.json.specs.Reads.{token_of}
use Rattle.json.specs.declared.token.Token.{Token as ReadToken}
use Rattle.serde_json.specs.Data.{Data, Items, Num, boolean, null, number, string}
use Rattle.serde_json.specs.Find.{as_i64, as_u64}
use Rattle.serde_json.specs.Read.{converted, number_of, of_items, of_json, read}
use Rattle.std.specs.Borrow.{Bor}
use Rattle.journal_text.specs.Options.{◌>>=◌}
use Rattle.journal_text.specs.Values.{datas, if_count, if_signed}
use Rattle.journal_reading.specs.Readings.{ReadsAs}
use Rattle.journal_reading.specs.declared.misread.Misread.{Misread}
use Rattle.journal_reading.specs.declared.misread.Misread.TheVariants as misread

-- ---- what is due

-- the value that comes next, whose arrays nest at most so deep
abbrev pub next_value : ℕ → List Token → Option (Data × List Token)
next_value depth ts = converted of_json (value depth ts)

-- the elements up to the bracket that closes their array
abbrev pub rest_of_row : ℕ → List Token → Option (Items × List Token)
rest_of_row depth ts = converted of_items (items (value depth) (length ts) ts)

-- what the next value is read as
abbrev pub pull : {A : Type 0} → (Data → Option A) → ℕ → List Token → Option (A × List Token)
pull f depth ts = converted f (next_value depth ts)

-- what the rest of a row is read as
abbrev pub pull_row : {A : Type 0} → (List Data → Option A) → ℕ → List Token
    → Option (A × List Token)
pull_row f depth ts = converted (λ ds. f (datas ds)) (rest_of_row depth ts)

-- the value that one token is, where it is no array and no object
abbrev pub scalar : Token → Option Data
scalar (token.string s) = Some (string s)
scalar (token.number s) = option_map number (number_of s)
scalar (token.boolean b) = Some (boolean b)
scalar token.null = Some null
scalar _ = None

-- what a token is read as
abbrev pub token_as : {A : Type 0} → (Data → Option A) → Token → Option A
token_as f t = scalar t >>= f

-- what the text of a number is read as
abbrev pub count_as : Option Num → Option ℕ
count_as n = n >>= λ x. (as_u64 x >>= if_count)

abbrev pub signed_as : Option Num → Option ℤ
signed_as n = n >>= λ x. (as_i64 x >>= if_signed)

-- what a whole text is read as
abbrev pub text_as : {A : Type 0} → (Data → Option A) → List ℕ → Option A
text_as f text = read text >>= f

-- ---- what was read

-- what was read, and the tokens that are left, are what is due
abbrev pub Leaves : {A B : Type 0} → (A → B) → List Token → Result A Misread
    → Option (B × List Token) → Type 0
Leaves see left r due = ReadsAs (λ x. (see x, left)) r due

-- the next value was read so, wherever arrays may nest this deep
abbrev pub PullsAs : {A B : Type 0} → (A → B) → ℕ → (Data → Option B) → Result A Misread
    → List Token → List Token → Type 0
PullsAs see deep f r old new = (d : ℕ) → deep ≤ d → Leaves see new r (pull f d old)

abbrev pub Pulls : {A : Type 0} → ℕ → (Data → Option A) → Result A Misread
    → List Token → List Token → Type 0
Pulls {A} deep f r old new = PullsAs (λ (x : A). x) deep f r old new

-- the same of the rest of a row
abbrev pub PullsRow : {A : Type 0} → ℕ → (List Data → Option A) → Result A Misread
    → List Token → List Token → Type 0
PullsRow {A} deep f r old new =
    (d : ℕ) → deep ≤ d → Leaves (λ (x : A). x) new r (pull_row f d old)

-- a front of the row was read as `f` says, and the rest of the row is left
abbrev pub PullsFront : {A : Type 0} → ℕ → (List Data → Option (A × List Data))
    → Result A Misread → List Token → List Token → Type 0
PullsFront deep f (Ok x) old new = (d : ℕ) → deep ≤ d
    → pull_row f d old ≡ parse_map (λ ds. (x, datas ds)) (rest_of_row d new)
PullsFront deep f (Err misread.Otherwise) old new = (d : ℕ) → deep ≤ d → pull_row f d old ≡ None
PullsFront deep f (Err misread.NoMemory) old new = Unit {0}

-- ---- single tokens

abbrev pub first_token : List Token → Option (Token × List Token)
first_token [] = None
first_token (t ∷ ts) = Some (t, ts)

-- what stands behind the bracket that opens an array, where one comes next
abbrev pub after_begin_array : List Token → Option (List Token)
after_begin_array (token.begin_array ∷ ts) = Some ts
after_begin_array _ = None

-- the name and what stands behind it, where a variant comes next
abbrev pub after_name : List Token → Option (List ℕ × List Token)
after_name (token.begin_array ∷ token.string s ∷ ts) = Some (s, ts)
after_name _ = None

abbrev pub if_over : List Token → Option (Unit {0})
if_over [] = Some tt
if_over (t ∷ ts) = None

abbrev pub Takes : Result ReadToken Misread → List Token → List Token → Type 0
Takes r old new = ReadsAs (λ t. (token_of t, new)) r (first_token old)

abbrev pub Opens : Result (Unit {0}) Misread → List Token → List Token → Type 0
Opens r old new = ReadsAs (λ _. new) r (after_begin_array old)

abbrev pub Ends : Result (Unit {0}) Misread → List Token → List Token → Type 0
Ends r old new = ReadsAs (λ _. new) r (after_end_array old)

abbrev pub Names : Result (Bor (List ℕ)) Misread → List Token → List Token → Type 0
Names r old new = ReadsAs (λ s. (s.now, new)) r (after_name old)

abbrev pub IsOver : Result (Unit {0}) Misread → List Token → Type 0
IsOver r old = ReadsAs (λ _. tt) r (if_over old)
