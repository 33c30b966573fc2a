-- What stands at a key, as a value of the key's kind, or the fault.
use Rattle.std.specs.Prelude.{ℕ, ◌==◌, ◌&&◌, ◌^◌, nat_lt, nat_le, if◌then◌else◌, ℤ, pos, negsuc, Bool, true, false, List, [], ◌∷◌, length, Option, Some, None, option_and_then, Result, Ok, Err}
use Rattle.std.specs.List.{list_all}
use Rattle.std.specs.Option.{option_map}
use Rattle.std.specs.Str.Parse.{signed_digits_value}
use Rattle.serde_json.specs.Data.{Data, Items, no_items, item}
use Rattle.serde_json.specs.Find.{as_array, as_bool, as_i64, as_number, as_str, as_u64}
use Rattle.base64.specs.Engines.{standard}
use Rattle.base64.specs.GeneralPurpose.{decode_of}
use Rattle.base64.specs.declared.decode.DecodeError.{DecodeError}
use Rattle.wire_messages.specs.declared.fault.JsonKey.{JsonKey}
use Rattle.wire_messages.specs.declared.fault.JsonKey.TheVariants as key
use Rattle.wire_messages.specs.declared.fault.MessageFault.{MessageFault}
use Rattle.wire_messages.specs.declared.fault.MessageFault.TheVariants as fault
use Rattle.json_messages.specs.Answers.{and_then}
use Rattle.list_lemmas.specs.Options.{or_else}
use Rattle.json_messages.specs.Keys.{value_at}

-- a part's default if nothing stands there
abbrev pub default_or : {A : Type 0} → A → (Data → Result A MessageFault) → Option Data
    → Result A MessageFault
default_or default kind None = Ok default
default_or default kind (Some d) = kind d

-- it is of its kind, or it isn't
abbrev pub of_kind : {A : Type 0} → JsonKey → Option A → Result A MessageFault
of_kind k None = Err (fault.WrongKind k)
of_kind k (Some x) = Ok x

-- ---- whole numbers

abbrev pub is_digit : ℕ → Bool
is_digit b = nat_le 48 b && nat_le b 57

abbrev pub all_digits : List ℕ → Bool
all_digits s = list_all is_digit s

-- decimal digits, the first of which is 0 only if it stands alone
abbrev pub are_digits : List ℕ → Bool
are_digits [] = false
are_digits (b ∷ bs) = if b == 48 then length bs == 0 else all_digits (b ∷ bs)

-- such digits, and a minus may stand before them
abbrev pub is_whole_text : List ℕ → Bool
is_whole_text [] = false
is_whole_text (b ∷ bs) = if b == 45 then are_digits bs else are_digits (b ∷ bs)

abbrev pub text_number : List ℕ → Option ℤ
text_number s = if is_whole_text s then Some (signed_digits_value 10 s) else None

-- a number that 64 bits hold, signed or unsigned
abbrev pub number_of : Data → Option ℤ
number_of d = or_else (option_and_then as_i64 (as_number d))
    (option_map pos (option_and_then as_u64 (as_number d)))

-- a text or a number that is a whole number
abbrev pub whole_by : Option (List ℕ) → Data → Option ℤ
whole_by None d = number_of d
whole_by (Some s) d = text_number s

-- from -2^31 to 2^31 - 1
abbrev pub is_small : ℤ → Bool
is_small (pos n) = nat_lt n (2 ^ 31)
is_small (negsuc n) = nat_lt n (2 ^ 31)

abbrev pub in_range : JsonKey → Option ℤ → Result ℤ MessageFault
in_range k None = Err (fault.WrongKind k)
in_range k (Some z) = if is_small z then Ok z else Err (fault.OutOfRange k)

abbrev pub number_in : JsonKey → Data → Result ℤ MessageFault
number_in k d = in_range k (whole_by (as_str d) d)

abbrev pub number_at : JsonKey → Data → Result ℤ MessageFault
number_at k d = default_or (pos 0) (number_in k) (value_at k d)

-- ---- flags, texts, digests

abbrev pub flag_in : JsonKey → Data → Result Bool MessageFault
flag_in k d = of_kind k (as_bool d)

abbrev pub flag_at : JsonKey → Data → Result Bool MessageFault
flag_at k d = default_or false (flag_in k) (value_at k d)

abbrev pub text_in : JsonKey → Data → Result (List ℕ) MessageFault
text_in k d = of_kind k (as_str d)

abbrev pub text_at : JsonKey → Data → Result (List ℕ) MessageFault
text_at k d = default_or [] (text_in k) (value_at k d)

abbrev pub decoded : Result (List ℕ) DecodeError → Result (List ℕ) MessageFault
decoded (Ok bytes) = Ok bytes
decoded (Err e) = Err (fault.WrongKind key.Digest)

-- the bytes of a text in padded base64 (RFC 4648), whose unused bits are 0
abbrev pub bytes_of : List ℕ → Result (List ℕ) MessageFault
bytes_of text = decoded (decode_of standard text)

abbrev pub digest_in : Data → Result (List ℕ) MessageFault
digest_in d = and_then (text_in key.Digest d) bytes_of

abbrev pub digest_at : Data → Result (List ℕ) MessageFault
digest_at d = default_or [] digest_in (value_at key.Digest d)

-- ---- lists

abbrev pub datas : Items → List Data
datas no_items = []
datas (item d ds) = d ∷ datas ds

abbrev pub elements : JsonKey → Data → Result (List Data) MessageFault
elements k d = of_kind k (option_map datas (as_array d))

-- each element's value, or the first element's fault
abbrev pub each : {A : Type 0} → (Data → Result A MessageFault) → List Data
    → Result (List A) MessageFault
each kind [] = Ok []
each kind (d ∷ ds) = and_then (kind d) (λ x. and_then (each kind ds) (λ xs. Ok (x ∷ xs)))

abbrev pub list_in : {A : Type 0} → JsonKey → (Data → Result A MessageFault) → Data
    → Result (List A) MessageFault
list_in k kind d = and_then (elements k d) (each kind)

abbrev pub texts_at : JsonKey → Data → Result (List (List ℕ)) MessageFault
texts_at k d = default_or [] (list_in k (text_in k)) (value_at k d)
