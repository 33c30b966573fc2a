-- Which strategy an action runs by: the first name of its list that supports it.
use Rattle.std.specs.Prelude.{◌≡◌, ℕ, ◌==◌, ◌&&◌, Bool, true, not, List, [], ◌∷◌, ◌++◌, length, find, Option, Some, None}
use Rattle.std.specs.List.{list_all}
use Rattle.std.specs.Str.{bytes_eq}
use Rattle.flag_files.specs.Split.{request_words}
use Rattle.list_actions.specs.declared.types.ListAction.{ListAction}
use Rattle.list_actions.specs.declared.types.Strategy.{Strategy}
use Rattle.list_actions.specs.declared.types.Strategy.TheVariants as strategy
use Rattle.spawn_strategies.specs.declared.types.Name.{Name}
use Rattle.spawn_strategies.specs.declared.types.Name.TheVariants as name
use Rattle.spawn_strategies.specs.declared.types.Rule.{Rule}
use Rattle.spawn_strategies.specs.declared.types.Strategies.{Strategies}

-- the action may go to a worker, and a flag file gives it the words of a request
abbrev pub can_work : ListAction → Bool
can_work x = x.needs.workers && not (length (request_words x.argv) == 0)

-- the strategy of this name supports an action that can or can't work
abbrev pub supports : Bool → Name → Bool
supports works name.Worker = works
supports works name.Sandboxed = true
supports works name.Remote = true
supports works name.Dynamic = works

-- the name of an action's own strategy
abbrev pub own_name : Strategy → Name
own_name strategy.Worker = name.Worker
own_name strategy.Remote = name.Remote
own_name strategy.Dynamic = name.Dynamic

-- the common names are a list where there are any
abbrev pub common_names : List Name → Option (List Name)
common_names [] = None
common_names (n ∷ ns) = Some (n ∷ ns)

abbrev pub names_by : Option Rule → List Name → Option (List Name)
names_by (Some r) common = Some r.names
names_by None common = common_names common

-- the list of the actions with this mnemonic: that of its rule, else the common one, else none
abbrev pub names_for : Strategies → List ℕ → Option (List Name)
names_for words mnemonic =
    names_by (find (λ r. bytes_eq r.mnemonic mnemonic) words.rules) words.common

abbrev pub chosen_among : ListAction → Option (List Name) → Option Name
chosen_among x None = Some (own_name x.strategy)
chosen_among x (Some names) = find (supports (can_work x)) names

-- the first name of the action's list that supports it, its own where it has no list
abbrev pub chosen : Strategies → ListAction → Option Name
chosen words x = chosen_among x (names_for words x.mnemonic)

-- ---- what the first is

-- this name is one of them and passes, and none before it does
pub record IsFirst (passes : Name → Bool) (names : List Name) (n : Name) : Type 0 where
  pub before : List Name
  pub after : List Name
  pub among : names ≡ before ++ n ∷ after
  pub this : passes n ≡ true
  pub none_before : list_all (λ m. not (passes m)) before ≡ true

-- the first name that passes, or none where none does
abbrev pub IsFirstOrNone : (Name → Bool) → List Name → Option Name → Type 0
IsFirstOrNone passes names None = list_all (λ m. not (passes m)) names ≡ true
IsFirstOrNone passes names (Some n) = IsFirst passes names n

-- the choice of the action: its own strategy without a list, else the first that supports it
abbrev pub IsChoice : ListAction → Option (List Name) → Option Name → Type 0
IsChoice x None n = n ≡ Some (own_name x.strategy)
IsChoice x (Some names) n = IsFirstOrNone (supports (can_work x)) names n
