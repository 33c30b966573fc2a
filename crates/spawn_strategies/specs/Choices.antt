-- The plan of the chosen strategies: that of the list with the chosen strategies in place of the
-- actions' own, with a group for the sandboxed actions.
use Rattle.std.specs.Prelude.{◌≡◌, ◌≤◌, ℕ, ◌+◌, nat_le, Bool, true, false, not, ◌&&◌, ◌||◌, if◌then◌else◌, min, List, [], ◌∷◌, ◌++◌, length, map, count_by, position, Option, Some, None, is_some, unwrap_or, Result, Ok, Err}
use Rattle.std.specs.List.{list_any}
use Rattle.std.specs.Str.{bytes_eq}
use Rattle.run_plan.specs.declared.plan.Group.{Group}
use Rattle.run_plan.specs.declared.plan.Plan.{Plan}
use Rattle.run_plan.specs.declared.plan.PlanAction.{PlanAction}
use Rattle.run_plan.specs.Limits.{most_actions, most_local_berths}
use Rattle.list_actions.specs.declared.types.ListAction.{ListAction}
use Rattle.list_actions.specs.declared.types.Strategy.{Strategy}
use Rattle.list_actions.specs.declared.types.Strategy.TheVariants as strategy
use Rattle.action_list.specs.Keys.{keys_of}
use Rattle.action_list.specs.Plans.{executor_groups, key_group, local_key, plan_actions, share, users}
use Rattle.spawn_strategies.specs.declared.types.ChoiceFault.{ChoiceFault}
use Rattle.spawn_strategies.specs.declared.types.ChoiceFault.TheVariants as fault
use Rattle.spawn_strategies.specs.declared.types.Name.{Name}
use Rattle.spawn_strategies.specs.declared.types.Name.TheVariants as name
use Rattle.spawn_strategies.specs.declared.types.PlanLimits.{PlanLimits}
use Rattle.spawn_strategies.specs.declared.types.Rule.{Rule}
use Rattle.spawn_strategies.specs.declared.types.Strategies.{Strategies}
use Rattle.spawn_strategies.specs.Chosen.{chosen}

-- no two rules have one mnemonic
abbrev pub are_different : List Rule → Bool
are_different [] = true
are_different (r ∷ rs) =
    not (list_any (λ s. bytes_eq s.mnemonic r.mnemonic) rs) && are_different rs

-- ---- the actions with their chosen strategies

-- the name that was chosen; where none was there is no plan, and the default isn't seen
abbrev pub name_in : Option Name → Name
name_in choice = unwrap_or choice name.Remote

abbrev pub name_of : Strategies → ListAction → Name
name_of words x = name_in (chosen words x)

-- what an action with this name is to the worker keys: a sandboxed one has no key
abbrev pub strategy_by : Name → Strategy
strategy_by name.Worker = strategy.Worker
strategy_by name.Sandboxed = strategy.Remote
strategy_by name.Remote = strategy.Remote
strategy_by name.Dynamic = strategy.Dynamic

abbrev pub with_name : Name → ListAction → ListAction
with_name n x = record x { strategy = strategy_by n }

abbrev pub chosen_names : Strategies → List ListAction → List Name
chosen_names words xs = map (name_of words) xs

abbrev pub chosen_actions : Strategies → List ListAction → List ListAction
chosen_actions words xs = map (λ x. with_name (name_of words x) x) xs

-- ---- the groups

abbrev pub is_sandboxed : Name → Bool
is_sandboxed name.Sandboxed = true
is_sandboxed _ = false

abbrev pub uses_executor : Name → Bool
uses_executor name.Remote = true
uses_executor name.Dynamic = true
uses_executor _ = false

-- the group of each key of these actions
abbrev pub key_groups : List ListAction → ℕ → List Group
key_groups ys instances =
    map (key_group ys (map local_key ys)
    (share (map (users (map local_key ys)) (keys_of ys)) instances)) (keys_of ys)

-- the group of the sandboxed actions, where there are any
abbrev pub sandbox_groups : ℕ → List Name → List Group
sandbox_groups sandboxed ns = executor_groups (min sandboxed (count_by is_sandboxed ns))

-- the executor, where an action with one of these names has a remote branch
abbrev pub remote_groups : ℕ → List Name → List Group
remote_groups remote ns = executor_groups (min remote (count_by uses_executor ns))

-- The group of each key, then that of the sandboxed actions, then the executor.
abbrev pub groups_by : List Group → List Name → ℕ → ℕ → List Group
groups_by keyed ns sandboxed remote =
    keyed ++ (sandbox_groups sandboxed ns ++ remote_groups remote ns)

-- ---- limits

-- what a plan asks of its limits
pub record AreLimits (l : PlanLimits) : Type 0 where
  pub keys : l.keys ≤ most_actions
  pub instances : l.instances ≤ most_local_berths
  pub remote : 1 ≤ l.remote
  pub retries : l.retries ≤ 9

-- a list of names has `sandboxed`
abbrev pub says_sandboxed : Strategies → Bool
says_sandboxed words =
    list_any is_sandboxed words.common
    || list_any (λ r. list_any is_sandboxed r.names) words.rules

-- the largest number of sandboxes: none where no list names them
abbrev pub sandboxes : Strategies → ℕ
sandboxes words = if says_sandboxed words then words.sandboxed else 0

-- ---- the branches

-- The branches of an action that is planned with its chosen strategy, where these are the numbers
-- of the group of the sandboxed actions and of the executor. Nothing else of it changes.
abbrev pub placed : ℕ → ℕ → Name → PlanAction → PlanAction
placed sandbox executor name.Worker y = y
placed sandbox executor name.Sandboxed y = record y { local = Some sandbox; remote = None }
placed sandbox executor name.Remote y = record y { remote = Some executor }
placed sandbox executor name.Dynamic y = record y { remote = Some executor }

-- each of the actions by its name
abbrev pub all_placed : ℕ → ℕ → List Name → List PlanAction → List PlanAction
all_placed sandbox executor [] ys = ys
all_placed sandbox executor (n ∷ ns) [] = []
all_placed sandbox executor (n ∷ ns) (y ∷ ys) =
    placed sandbox executor n y ∷ all_placed sandbox executor ns ys

-- ---- the whole plan

-- the plan of actions that have the chosen strategies, with their names
abbrev pub plan_by : List ListAction → List Name → ℕ → ℕ → ℕ → ℕ → Plan
plan_by ys ns instances sandboxed remote retries = record {
  actions = all_placed (length (keys_of ys))
      (length (keys_of ys) + length (sandbox_groups sandboxed ns)) ns
      (plan_actions (keys_of ys) [] ys);
  groups = groups_by (key_groups ys instances) ns sandboxed remote;
  limit = retries + 1;
}

-- the number of the first action that no name of its list supports
abbrev pub first_unsupported : Strategies → List ListAction → Option ℕ
first_unsupported words xs = position (λ choice. not (is_some choice)) (map (chosen words) xs)

abbrev pub unless_unsupported : {A : Type 0} → Option ℕ → Result A ChoiceFault
    → Result A ChoiceFault
unless_unsupported (Some action) due = Err (fault.NoneSupports action)
unless_unsupported None due = due

abbrev pub unless_many : ℕ → ℕ → Plan → Result Plan ChoiceFault
unless_many most keys p = if nat_le keys most then Ok p else Err (fault.TooManyKeys keys)

-- The plan of the chosen strategies, or why there is none: an action that nothing supports goes
-- before too many keys.
unfoldable pub choice_of : List ListAction → Strategies → PlanLimits → Result Plan ChoiceFault
choice_of xs words l =
    unless_unsupported (first_unsupported words xs)
    (unless_many l.keys (length (keys_of (chosen_actions words xs)))
    (plan_by (chosen_actions words xs) (chosen_names words xs)
    l.instances words.sandboxed l.remote l.retries))

-- The answer is the one that is due. Lack of memory may always stand in its place.
abbrev pub Refuses : {A : Type 0} → ChoiceFault → Result A ChoiceFault → Type 0
Refuses (fault.NoneSupports action) due = due ≡ Err (fault.NoneSupports action)
Refuses (fault.TooManyKeys keys) due = due ≡ Err (fault.TooManyKeys keys)
Refuses fault.NoMemory due = Unit {0}

abbrev pub Answers : {A : Type 0} → Result A ChoiceFault → Result A ChoiceFault → Type 0
Answers (Ok x) due = due ≡ Ok x
Answers (Err e) due = Refuses e due
