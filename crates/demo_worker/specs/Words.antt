-- What the words of a command say.
use Rattle.std.specs.Prelude.{ℕ, Bool, ◌&&◌, List, length, drop, map, codes, nat_le, nat_lt, nat_eq}
use Rattle.std.specs.Prelude.{filter_map, Option, Some, None, option_and_then, if◌then◌else◌}
use Rattle.std.specs.Char.{is_ascii_digit}
use Rattle.std.specs.List.{starts_with, list_all}
use Rattle.std.specs.Str.Parse.{digits_value}
use Rattle.wire_fields.specs.Message.{last_or}
use Rattle.tool_words.specs.Words.{after_front}

abbrev pub input_in : List ℕ → Option (List ℕ)
input_in word = after_front (codes "--in=") word

abbrev pub output_in : List ℕ → Option (List ℕ)
output_in word = after_front (codes "--out=") word

-- one to three decimal digits, at most 255
abbrev pub is_exit_code : List ℕ → Bool
is_exit_code digits =
    list_all is_ascii_digit digits && nat_le 1 (length digits) && nat_le (length digits) 3
    && nat_le (digits_value 10 digits) 255

abbrev pub exit_code_of : List ℕ → Option ℕ
exit_code_of digits = if is_exit_code digits then Some (digits_value 10 digits) else None

abbrev pub exit_code_in : List ℕ → Option ℕ
exit_code_in word = option_and_then exit_code_of (after_front (codes "--exit=") word)

-- every input, in order
abbrev pub inputs_of : List (List ℕ) → List (List ℕ)
inputs_of words = filter_map input_in words

-- the last output, where there is one
abbrev pub output_of : List (List ℕ) → Option (List ℕ)
output_of words = last_or None (map Some (filter_map output_in words))

-- the last exit code
abbrev pub exit_code : List (List ℕ) → ℕ
exit_code words = last_or 0 (filter_map exit_code_in words)

-- the file that a word of `@` and a name stands for
abbrev pub flag_file_in : List ℕ → Option (List ℕ)
flag_file_in word =
    if starts_with nat_eq word (codes "@") && nat_lt 1 (length word) then Some (drop 1 word) else None

abbrev pub flag_files_of : List (List ℕ) → List (List ℕ)
flag_files_of words = filter_map flag_file_in words
