-- Each key's faults, and the order in which the keys are looked at.
use Rattle.std.specs.Prelude.{ℕ, ◌+◌, ◌==◌, ◌&&◌, ◌||◌, Bool, true, false, not, if◌then◌else◌, nat_lt, nat_le, List, [], ◌∷◌, length, map, codes, find, Option, Some, None, option_map, Ok, Err}
use Rattle.std.specs.List.{list_all}
use Rattle.std.specs.Str.{bytes_eq}
use Rattle.serde_json.specs.Data.{Data}
use Rattle.path_rules.specs.Paths.{path_fault}
use Rattle.path_rules.specs.declared.PathFault.{PathFault}
use Rattle.flag_files.specs.Split.{request_words}
use Rattle.plain_values.specs.declared.command.Variable.{Variable}
use Rattle.action_list.specs.declared.draft.Draft.{Draft}
use Rattle.action_list.specs.declared.draft.Slot.{Slot}
use Rattle.action_list.specs.declared.draft.Slot.TheVariants.{Missing, Other, Held}
use Rattle.list_actions.specs.declared.faults.ListFault.TheVariants as fault
use Rattle.list_actions.specs.declared.faults.Key.{Key}
use Rattle.list_actions.specs.declared.faults.Key.TheVariants as key
use Rattle.list_actions.specs.declared.faults.What.{What}
use Rattle.list_actions.specs.declared.faults.What.TheVariants as what
use Rattle.list_actions.specs.declared.types.Strategy.{Strategy}
use Rattle.list_actions.specs.declared.types.Strategy.TheVariants as strategy
use Rattle.list_actions.specs.Answers.{Check, first}
use Rattle.action_list.specs.Format.{draft_of}

-- ---- a value of its kind

abbrev pub count_check : What → ℕ → ℕ → Check
count_check w limit count = if nat_le count limit then Ok tt else Err (fault.TooMany w count)

abbrev pub too_many : {A : Type 0} → What → ℕ → List A → Check
too_many w limit xs = count_check w limit (length xs)

abbrev pub is_name : List ℕ → Bool
is_name s =
    nat_lt 0 (length s) && nat_le (length s) 256 && list_all (λ b. nat_le 33 b && not (b == 127)) s

abbrev pub name_check : ℕ → List ℕ → Check
name_check a s = if is_name s then Ok tt else Err (fault.BadName a)

abbrev pub mnemonic_check : ℕ → List ℕ → Check
mnemonic_check a s = if length s == 0 then Err (fault.WrongKind (Some a) key.Mnemonic) else Ok tt

-- the program's name is there and isn't empty
abbrev pub has_program : List (List ℕ) → Bool
has_program [] = false
has_program (program ∷ words) = not (length program == 0)

abbrev pub program_check : ℕ → List (List ℕ) → Check
program_check a words = if has_program words then Ok tt else Err (fault.WrongKind (Some a) key.Argv)

abbrev pub argv_check : ℕ → List (List ℕ) → Check
argv_check a words = first (program_check a words ∷ too_many what.Argv 1024 words ∷ [])

abbrev pub path_check_of : ℕ → List ℕ → Option PathFault → Check
path_check_of a path None = Ok tt
path_check_of a path (Some f) = Err (fault.BadPath a path f)

abbrev pub path_check : ℕ → List ℕ → Check
path_check a path = path_check_of a path (path_fault path)

abbrev pub paths_check : ℕ → What → ℕ → List (List ℕ) → Check
paths_check a w limit paths = first (too_many w limit paths ∷ first (map (path_check a) paths) ∷ [])

-- the value of this name, where there is one
abbrev pub value_of : List ℕ → List Variable → Option (List ℕ)
value_of name vs = option_map (λ v. v.value) (find (λ v. bytes_eq v.name name) vs)

abbrev pub protocol_check : ℕ → Option (List ℕ) → Check
protocol_check a None = Ok tt
protocol_check a (Some s) = if bytes_eq s (codes "json") || bytes_eq s (codes "proto") then Ok tt
    else Err (fault.BadRequirement a)

abbrev pub replacement_check : ℕ → Option (List ℕ) → Check
replacement_check a None = Ok tt
replacement_check a (Some s) = if length s == 0 then Err (fault.BadRequirement a) else Ok tt

abbrev pub requirements_check : ℕ → List Variable → Check
requirements_check a vs =
    first (too_many what.Requirements 64 vs
    ∷ protocol_check a (value_of (codes "requires-worker-protocol") vs)
    ∷ replacement_check a (value_of (codes "worker-key-mnemonic") vs)
    ∷ [])

-- ---- what stands at a key

abbrev pub required : {A : Type 0} → ℕ → Key → (A → Check) → Slot A → Check
required a k check Missing = Err (fault.MissingKey (Some a) k)
required a k check Other = Err (fault.WrongKind (Some a) k)
required a k check (Held x) = check x

abbrev pub optional : {A : Type 0} → ℕ → Key → (A → Check) → Slot A → Check
optional a k check Missing = Ok tt
optional a k check Other = Err (fault.WrongKind (Some a) k)
optional a k check (Held x) = check x

-- what the key holds, or nothing
abbrev pub list_in : {A : Type 0} → Slot (List A) → List A
list_in Missing = []
list_in Other = []
list_in (Held xs) = xs

-- ---- the strategy

abbrev pub strategy_named : List ℕ → Option Strategy
strategy_named s =
    if bytes_eq s (codes "worker") then Some strategy.Worker
    else (if bytes_eq s (codes "remote") then Some strategy.Remote
    else (if bytes_eq s (codes "dynamic") then Some strategy.Dynamic else None))

abbrev pub has_local : Strategy → Bool
has_local strategy.Worker = true
has_local strategy.Remote = false
has_local strategy.Dynamic = true

abbrev pub has_remote : Strategy → Bool
has_remote strategy.Worker = false
has_remote strategy.Remote = true
has_remote strategy.Dynamic = true

abbrev pub says : List ℕ → Option (List ℕ) → Bool
says s None = false
says s (Some t) = bytes_eq t s

-- the requirement is set
abbrev pub is_set : List ℕ → List Variable → Bool
is_set name vs = says (codes "1") (value_of name vs)

-- A worker is only used where that is allowed, and where a flag file gives it the words of a
-- request.
abbrev pub local_check : ℕ → Draft → Check
local_check a d =
    if is_set (codes "supports-workers") (list_in d.requirements)
    then (if length (request_words (list_in d.argv)) == 0 then Err (fault.NoFlagFile a) else Ok tt)
    else Err (fault.NoStrategy a)

abbrev pub known_strategy_check : ℕ → Draft → Option Strategy → Check
known_strategy_check a d None = Err (fault.NoStrategy a)
known_strategy_check a d (Some s) = if has_local s then local_check a d else Ok tt

abbrev pub strategy_check : ℕ → Draft → Slot (List ℕ) → Check
strategy_check a d Missing = local_check a d
strategy_check a d Other = Err (fault.WrongKind (Some a) key.Strategy)
strategy_check a d (Held s) = known_strategy_check a d (strategy_named s)

-- ---- the keys in their order

-- the fault of this key of the action with this number
abbrev pub key_check : ℕ → Draft → Key → Check
key_check a d key.Top = Ok tt
key_check a d key.Actions = Ok tt
key_check a d key.Action = if d.is_object then Ok tt else Err (fault.WrongKind (Some a) key.Action)
key_check a d key.Name = required a key.Name (name_check a) d.name
key_check a d key.Mnemonic = required a key.Mnemonic (mnemonic_check a) d.mnemonic
key_check a d key.Argv = required a key.Argv (argv_check a) d.argv
key_check a d key.Env = optional a key.Env (too_many what.Env 256) d.env
key_check a d key.Tools = optional a key.Tools (paths_check a what.Tools 256) d.tools
key_check a d key.Inputs = optional a key.Inputs (paths_check a what.Inputs 4096) d.inputs
key_check a d key.Outputs = required a key.Outputs (paths_check a what.Outputs 256) d.outputs
key_check a d key.Requirements = optional a key.Requirements (requirements_check a) d.requirements
key_check a d key.Strategy = strategy_check a d d.strategy

abbrev pub keys_in_order : List Key
keys_in_order = key.Action ∷ key.Name ∷ key.Mnemonic ∷ key.Argv ∷ key.Env ∷ key.Tools ∷ key.Inputs ∷
    key.Outputs ∷ key.Requirements ∷ key.Strategy ∷ []

-- the first fault of the action with this number
unfoldable pub action_check : ℕ → Draft → Check
action_check a d = first (map (key_check a d) keys_in_order)

-- the first fault of the actions from this number on
abbrev pub actions_check : ℕ → List Data → Check
actions_check a [] = Ok tt
actions_check a (d ∷ ds) = first (action_check a (draft_of d) ∷ actions_check (a + 1) ds ∷ [])
