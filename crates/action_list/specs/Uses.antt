-- How the keys of a list are used, counted by the numbers of the actions' keys.
use Rattle.std.specs.Prelude.{ℕ, ◌+◌, ◌==◌, Bool, false, List, map, min, count_by, position, slice_get, slice_index_or, slice_set, option_and_then, Option, Some, None, if◌then◌else◌, is_some}
use Rattle.std.specs.List.{range_with_len}
use Rattle.run_plan.specs.declared.plan.Group.{Group}
use Rattle.list_actions.specs.declared.types.ListAction.{ListAction}
use Rattle.action_list.specs.declared.planning.KeyUse.{KeyUse}
use Rattle.action_list.specs.Plans.{group_by}

abbrev pub is_number : ℕ → Option ℕ → Bool
is_number n None = false
is_number n (Some m) = m == n

-- how many of these have the number, and which is the first
abbrev pub use_in : List (Option ℕ) → ℕ → KeyUse
use_in numbers n =
    record { users = count_by (is_number n) numbers; first = position (is_number n) numbers }

-- the same of each number below this one
abbrev pub uses_of : ℕ → List (Option ℕ) → List KeyUse
uses_of count numbers = map (use_in numbers) (range_with_len 0 count)

abbrev pub no_use : KeyUse
no_use = record { users = 0; first = None }

-- one user more, the first where there was none
abbrev pub one_more : KeyUse → ℕ → KeyUse
one_more u index =
    record { users = u.users + 1; first = if is_some u.first then u.first else Some index }

abbrev pub with_use : List KeyUse → Option ℕ → ℕ → List KeyUse
with_use uses None index = uses
with_use uses (Some n) index = slice_set uses n (one_more (slice_index_or uses n no_use) index)

abbrev pub used_group : List ListAction → ℕ → KeyUse → Group
used_group xs each u = group_by (option_and_then (slice_get xs) u.first) (min each u.users)
