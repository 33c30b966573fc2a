-- What one word of the command means.
use Rattle.std.specs.Prelude.{ℕ, Bool, false, not, ◌&&◌, ◌==◌, ◌+◌, ◌*◌, ◌-◌, Option, Some, None, is_some, option_and_then, if◌then◌else◌, List, [], ◌∷◌, length, drop, nat_le, nat_eq, codes, fold}
use Rattle.std.specs.List.{starts_with, list_all}
use Rattle.std.specs.Str.{bytes_eq}
use Rattle.tool_words.specs.declared.word.Kind.{Kind}
use Rattle.tool_words.specs.declared.word.Kind.TheVariants as kind

-- what stands behind this front of a word, maybe nothing
abbrev pub after_front : List ℕ → List ℕ → Option (List ℕ)
after_front front word =
    if starts_with nat_eq word front then Some (drop (length front) word) else None

abbrev pub unless_empty : Option (List ℕ) → Option (List ℕ)
unless_empty None = None
unless_empty (Some []) = None
unless_empty (Some (b ∷ bs)) = Some (b ∷ bs)

-- what stands behind this front of a word, where something does
abbrev pub behind : List ℕ → List ℕ → Option (List ℕ)
behind front word = unless_empty (after_front front word)

abbrev pub is_digit : ℕ → Bool
is_digit c = nat_le 48 c && nat_le c 57

-- the number that these digits write
abbrev pub value_of : List ℕ → ℕ
value_of digits = fold (λ n d. 10 * n + (d - 48)) 0 digits

-- one to four decimal digits
abbrev pub is_short_number : List ℕ → Bool
is_short_number digits =
    nat_le 1 (length digits) && nat_le (length digits) 4 && list_all is_digit digits

-- the number, where it lies within these limits
abbrev pub within : ℕ → ℕ → ℕ → Option ℕ
within least most n = if nat_le least n && nat_le n most then Some n else None

abbrev pub number_of : ℕ → ℕ → List ℕ → Option ℕ
number_of least most digits =
    if is_short_number digits then within least most (value_of digits) else None

-- the number behind the front of an option
abbrev pub number_behind : List ℕ → ℕ → ℕ → List ℕ → Option ℕ
number_behind front least most word = option_and_then (number_of least most) (behind front word)

-- it is not empty, and no option
abbrev pub names_a_list : List ℕ → Bool
names_a_list [] = false
names_a_list (first ∷ rest) = not (first == 45)

-- the number that a word of this kind gives
abbrev pub number_in : Kind → List ℕ → Option ℕ
number_in kind.Instances word = number_behind (codes "--instances=") 1 48 word
number_in kind.Remote word = number_behind (codes "--remote=") 1 16 word
number_in kind.Retries word = number_behind (codes "--retries=") 0 9 word
number_in kind.Generate word = number_behind (codes "--generate=") 1 1000 word
number_in _ word = None

-- the text that a word of this kind gives
abbrev pub text_in : Kind → List ℕ → Option (List ℕ)
text_in kind.List word = if names_a_list word then Some word else None
text_in kind.Executor word = behind (codes "--executor=") word
text_in kind.ExtraFlag word = behind (codes "--extra_flag=") word
text_in _ word = None

-- the word is of this kind
abbrev pub fits : Kind → List ℕ → Bool
fits kind.List word = is_some (text_in kind.List word)
fits kind.Verbose word = bytes_eq word (codes "--worker_verbose")
fits kind.Instances word = is_some (number_in kind.Instances word)
fits kind.Remote word = is_some (number_in kind.Remote word)
fits kind.Retries word = is_some (number_in kind.Retries word)
fits kind.Generate word = is_some (number_in kind.Generate word)
fits kind.Executor word = is_some (text_in kind.Executor word)
fits kind.ExtraFlag word = is_some (text_in kind.ExtraFlag word)
