-- The parts of lines as JSON values: how each is written, and what a value is read as.
use Rattle.std.specs.Prelude.{ℕ, ◌^◌, nat_lt, if◌then◌else◌, ℤ, pos, negsuc, Bool, List, [], ◌∷◌, Option, Some, None, is_some, Result, Ok, Err}
use Rattle.serde_json.specs.Data.{Data, Items, no_items, item, null, number, unsigned, string, array}
use Rattle.serde_json.specs.Find.{as_array, as_bool, as_i64, as_null, as_number, as_str, as_u64, of_integer}
use Rattle.serde_json.specs.View.{items_of}
use Rattle.base64.specs.Engines.{standard}
use Rattle.base64.specs.GeneralPurpose.{decode_of, encode_of}
use Rattle.base64.specs.declared.decode.DecodeError.{DecodeError}
use Rattle.journal_text.specs.Options.{◌>>=◌, each}

-- ---- written

abbrev pub count_data : ℕ → Data
count_data n = number (unsigned n)

abbrev pub signed_data : ℤ → Data
signed_data z = number (of_integer z)

-- in padded base64 (RFC 4648)
abbrev pub content_data : List ℕ → Data
content_data bytes = string (encode_of standard bytes)

abbrev pub maybe_data : Option ℕ → Data
maybe_data None = null
maybe_data (Some n) = count_data n

-- a list, or a struct's fields in order
abbrev pub row_data : List Data → Data
row_data ds = array (items_of ds)

-- an enum's variant: its name, and its fields in order
abbrev pub variant_data : List ℕ → List Data → Data
variant_data name ds = row_data (string name ∷ ds)

-- ---- read

abbrev pub if_count : ℕ → Option ℕ
if_count n = if nat_lt n (2 ^ 32) then Some n else None

-- a number of 32 bits
abbrev pub count_in : Data → Option ℕ
count_in d = as_number d >>= λ n. (as_u64 n >>= if_count)

abbrev pub if_signed : ℤ → Option ℤ
if_signed (pos n) = if nat_lt n (2 ^ 31) then Some (pos n) else None
if_signed (negsuc n) = if nat_lt n (2 ^ 31) then Some (negsuc n) else None

-- from -2^31 to 2^31 - 1
abbrev pub signed_in : Data → Option ℤ
signed_in d = as_number d >>= λ n. (as_i64 n >>= if_signed)

abbrev pub flag_in : Data → Option Bool
flag_in d = as_bool d

abbrev pub text_in : Data → Option (List ℕ)
text_in d = as_str d

abbrev pub decoded : Result (List ℕ) DecodeError → Option (List ℕ)
decoded (Ok bytes) = Some bytes
decoded (Err e) = None

-- the bytes of a text in padded base64, whose unused bits are 0
abbrev pub content_in : Data → Option (List ℕ)
content_in d = as_str d >>= λ text. decoded (decode_of standard text)

-- `null` is nothing
abbrev pub maybe_in : Data → Option (Option ℕ)
maybe_in d =
    if is_some (as_null d) then Some None else count_in d >>= λ n. Some (Some n)

abbrev pub datas : Items → List Data
datas no_items = []
datas (item d ds) = d ∷ datas ds

-- the elements of an array
abbrev pub row_in : Data → Option (List Data)
row_in d = as_array d >>= λ ds. Some (datas ds)

abbrev pub list_in : {A : Type 0} → (Data → Option A) → Data → Option (List A)
list_in f d = row_in d >>= each f

-- ---- a row from its front: a value, and the elements behind it

abbrev pub first : List Data → Option (Data × List Data)
first [] = None
first (d ∷ ds) = Some (d, ds)

-- the first element, read so
abbrev pub at : {A : Type 0} → (Data → Option A) → List Data → Option (A × List Data)
at f ds = first ds >>= λ d. (f d.0 >>= λ x. Some (x, d.1))

-- nothing more stands there
abbrev pub at_end : List Data → Option (Unit {0})
at_end [] = Some tt
at_end (d ∷ ds) = None

-- a value behind which nothing stands
abbrev pub whole : {A : Type 0} → A → List Data → Option A
whole x ds = at_end ds >>= λ _. Some x

-- a variant's name, and its fields
abbrev pub variant_in : Data → Option (List ℕ × List Data)
variant_in d = row_in d >>= at text_in

-- a name with no fields
abbrev pub word_in : Data → Option (List ℕ)
word_in d = variant_in d >>= λ v. whole v.0 v.1
