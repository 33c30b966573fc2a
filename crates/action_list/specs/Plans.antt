-- The plan of a list: its groups with their berths, and each action's branches and made inputs.
use Rattle.std.specs.Prelude.{ℕ, ◌+◌, ◌==◌, ◌<◌, ◌≤◌, Bool, false, if◌then◌else◌, min, nat_le, List, [], ◌∷◌, ◌++◌, length, map, sum_by, count_by, position, slice_get, option_and_then, Option, Some, None, zero, suc}
use Rattle.std.specs.List.{filter_map}
use Rattle.std.specs.Str.{bytes_eq}
use Rattle.run_plan.specs.declared.plan.Group.{Group}
use Rattle.run_plan.specs.declared.plan.Kind.{Kind}
use Rattle.run_plan.specs.declared.plan.Kind.TheVariants as kind
use Rattle.run_plan.specs.declared.plan.Plan.{Plan}
use Rattle.run_plan.specs.declared.plan.PlanAction.{PlanAction}
use Rattle.worker_key.specs.declared.key.Mode.{Mode}
use Rattle.worker_key.specs.declared.key.Mode.TheVariants as mode
use Rattle.list_actions.specs.declared.types.ListAction.{ListAction}
use Rattle.list_actions.specs.Made.{maker_of}
use Rattle.action_list.specs.Checks.{has_local, has_remote}
use Rattle.action_list.specs.Keys.{key_bytes, keys_of, mode_of}
use Rattle.run_plan.specs.Limits.{most_local_berths}

-- ---- the groups

-- the bytes of the action's key, where it has a local branch
abbrev pub local_key : ListAction → Option (List ℕ)
local_key x = if has_local x.strategy then Some (key_bytes x) else None

abbrev pub is_key : List ℕ → Option (List ℕ) → Bool
is_key key None = false
is_key key (Some bytes) = bytes_eq key bytes

-- how many of the actions with these keys have this one
abbrev pub users : List (Option (List ℕ)) → List ℕ → ℕ
users held key = count_by (is_key key) held

-- the first action that has the key
abbrev pub first_user : List ListAction → List (Option (List ℕ)) → List ℕ → Option ListAction
first_user xs held key = option_and_then (slice_get xs) (position (is_key key) held)

-- the berths of all keys where none has more than n
abbrev pub berths_at : List ℕ → ℕ → ℕ
berths_at counts n = sum_by (λ count. min n count) counts

-- n is the greatest number up to this one of which P holds
pub record IsGreatest (P : ℕ → Type 0) (most n : ℕ) : Type 0 where
  pub within : n ≤ most
  pub holds : P n
  pub none_above : (m : ℕ) → n < m → m ≤ most → P m → ⊥

-- where no key has more than n berths, all keys together have few enough
abbrev pub AreFew : List ℕ → ℕ → Type 0
AreFew counts n = berths_at counts n ≤ most_local_berths

-- the greatest such number, at most this one
abbrev pub share : List ℕ → ℕ → ℕ
share counts zero = 0
share counts (suc n) = if nat_le (berths_at counts (suc n)) most_local_berths then suc n else share counts n

-- The requests of a group run as the mode of its key says.
abbrev pub kind_by : Mode → Kind
kind_by mode.Single = kind.Single
kind_by mode.Multi = kind.Multi
kind_by mode.Boxed = kind.Boxed

abbrev pub kind_of : ListAction → Kind
kind_of x = kind_by (mode_of x)

-- the group of a key, by the first action that has it
abbrev pub group_by : Option ListAction → ℕ → Group
group_by None n = record { kind = kind.Single; cancel = false; berths = n }
group_by (Some x) n = record { kind = kind_of x; cancel = x.needs.cancel; berths = n }

abbrev pub key_group : List ListAction → List (Option (List ℕ)) → ℕ → List ℕ → Group
key_group xs held n key = group_by (first_user xs held key) (min n (users held key))

abbrev pub remote_users : List ListAction → ℕ
remote_users xs = count_by (λ x. has_remote x.strategy) xs

abbrev pub executor_groups : ℕ → List Group
executor_groups berths =
    if berths == 0 then [] else record { kind = kind.Remote; cancel = false; berths = berths } ∷ []

-- The group of each key, and then the executor, where an action has a remote branch.
abbrev pub groups_of : List ListAction → List (Option (List ℕ)) → List (List ℕ) → ℕ → ℕ → List Group
groups_of xs held keys instances remote =
    map (key_group xs held (share (map (users held) keys) instances)) keys
    ++ executor_groups (min remote (remote_users xs))

-- ---- the actions

-- the number of the key among these
abbrev pub number_of : List (List ℕ) → Option (List ℕ) → Option ℕ
number_of keys None = None
number_of keys (Some bytes) = position (λ key. bytes_eq key bytes) keys

abbrev pub local_of : List (List ℕ) → ListAction → Option ℕ
local_of keys x = number_of keys (local_key x)

abbrev pub remote_of : List (List ℕ) → ListAction → Option ℕ
remote_of keys x = if has_remote x.strategy then Some (length keys) else None

abbrev pub plan_action : List (List ℕ) → List ListAction → ListAction → PlanAction
plan_action keys before x = record {
  name = x.name;
  outputs = x.outputs;
  makers = filter_map (maker_of before) x.inputs;
  local = local_of keys x;
  remote = remote_of keys x;
}

-- the actions that follow these
abbrev pub plan_actions : List (List ℕ) → List ListAction → List ListAction → List PlanAction
plan_actions keys before [] = []
plan_actions keys before (x ∷ xs) =
    plan_action keys before x ∷ plan_actions keys (before ++ x ∷ []) xs

unfoldable pub plan_of : List ListAction → ℕ → ℕ → ℕ → Plan
plan_of xs instances remote retries = record {
  actions = plan_actions (keys_of xs) [] xs;
  groups = groups_of xs (map local_key xs) (keys_of xs) instances remote;
  limit = retries + 1;
}
