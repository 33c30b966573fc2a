-- What one word says of strategies, sandboxes and the delay.
use Rattle.std.specs.Prelude.{ℕ, ◌==◌, ◌&&◌, ◌||◌, Bool, true, not, if◌then◌else◌, List, [], ◌∷◌, codes, filter_map, Option, Some, None, is_some, option_and_then}
use Rattle.std.specs.List.{after_first, before_first, list_all, slice_split}
use Rattle.std.specs.Str.{bytes_eq}
use Rattle.list_actions.specs.Order.{is_among}
use Rattle.tool_words.specs.Words.{after_front, behind, number_behind}
use Rattle.spawn_strategies.specs.declared.types.Name.{Name}
use Rattle.spawn_strategies.specs.declared.types.Name.TheVariants as name
use Rattle.spawn_strategies.specs.declared.types.Rule.{Rule}
use Rattle.spawn_strategies.specs.declared.numbers.Number.{Number}
use Rattle.spawn_strategies.specs.declared.numbers.Number.TheVariants as number

-- ---- lists of names

-- the strategy that a text names
abbrev pub name_named : List ℕ → Option Name
name_named s =
    if bytes_eq s (codes "worker") then Some name.Worker
    else (if bytes_eq s (codes "sandboxed") then Some name.Sandboxed
    else (if bytes_eq s (codes "remote") then Some name.Remote
    else (if bytes_eq s (codes "dynamic") then Some name.Dynamic else None)))

-- what stands between the commas
abbrev pub pieces_of : List ℕ → List (List ℕ)
pieces_of text = slice_split (λ b. b == 44) text

abbrev pub no_two_alike : List (List ℕ) → Bool
no_two_alike [] = true
no_two_alike (t ∷ ts) = not (is_among ts t) && no_two_alike ts

abbrev pub is_name : List ℕ → Bool
is_name s = is_some (name_named s)

-- Each of them is a name, and no two are the same. There are four names, so that there are no more.
abbrev pub are_names : List (List ℕ) → Bool
are_names pieces = list_all is_name pieces && no_two_alike pieces

abbrev pub names_in : List (List ℕ) → Option (List Name)
names_in pieces = if are_names pieces then Some (filter_map name_named pieces) else None

-- the names that a text lists: one to four different ones, joined by commas
abbrev pub names_of : List ℕ → Option (List Name)
names_of text = names_in (pieces_of text)

-- ---- one word

abbrev pub rule_with : List ℕ → Option (List Name) → Option Rule
rule_with [] names = None
rule_with (b ∷ bs) None = None
rule_with (b ∷ bs) (Some names) = Some (record { mnemonic = b ∷ bs; names = names })

abbrev pub is_equals : ℕ → Bool
is_equals b = b == 61

-- The mnemonic, which isn't empty, stands before the first `=`, and the list behind it.
abbrev pub rule_of : List ℕ → Option Rule
rule_of text = rule_with (before_first is_equals text) (names_of (after_first is_equals text))

-- the rule that `--strategy=M=LIST` gives
abbrev pub rule_in : List ℕ → Option Rule
rule_in word = option_and_then rule_of (after_front (codes "--strategy=") word)

-- the list that `--spawn_strategy=LIST` gives
abbrev pub common_in : List ℕ → Option (List Name)
common_in word = option_and_then names_of (after_front (codes "--spawn_strategy=") word)

-- the text that `--sandbox_executor=TEXT` gives
abbrev pub executor_in : List ℕ → Option (List ℕ)
executor_in word = behind (codes "--sandbox_executor=") word

-- the number that `--sandboxed=N` or `--local_delay=N` gives
abbrev pub number_in : Number → List ℕ → Option ℕ
number_in number.Sandboxed word = number_behind (codes "--sandboxed=") 1 16 word
number_in number.Delay word = number_behind (codes "--local_delay=") 0 9999 word

-- the word is one of these; all others are read as those of `tool_words`
abbrev pub is_taken : List ℕ → Bool
is_taken word =
    is_some (rule_in word) || is_some (common_in word) || is_some (executor_in word)
    || is_some (number_in number.Sandboxed word) || is_some (number_in number.Delay word)
