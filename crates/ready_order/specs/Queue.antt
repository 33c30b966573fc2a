-- What the table keeps of each action, what a call makes of it, and which branches are queued.
use Rattle.std.specs.Prelude.{◌≡◌, ℕ, ◌+◌, ◌<◌, ◌==◌, Bool, true, false, ◌&&◌, not, is_none, unwrap_or, option_map, option_and_then, Option, Some, None, if◌then◌else◌, List, [], ◌∷◌, map, slice_get}
use Rattle.std.specs.List.{list_all}
use Rattle.run_plan.specs.declared.plan.Branch.{Branch}
use Rattle.run_plan.specs.declared.plan.Branch.TheVariants.{Local, Remote}
use Rattle.run_plan.specs.declared.plan.Plan.{Plan}
use Rattle.run_plan.specs.declared.plan.PlanAction.{PlanAction}
use Rattle.exec_journal.specs.declared.ends.Standing.{Standing}
use Rattle.exec_journal.specs.declared.ends.Standing.TheVariants.{Open, Succeeded, Unsuccessful}
use Rattle.exec_journal.specs.Settled.{is_settled, is_success}
use Rattle.list_lemmas.specs.Options.{or_else}
use Rattle.list_lemmas.specs.Places.{update}
use Rattle.ready_order.specs.declared.BranchState.{BranchState}
use Rattle.ready_order.specs.declared.ActionState.{ActionState}

-- ---- a new table

-- the actions that make its inputs
abbrev pub producers_of : PlanAction → List ℕ
producers_of x = map (λ m. m.action) x.makers

-- an action that uses no branch has none left
abbrev pub new_standing : PlanAction → Standing
new_standing x = if is_none x.local && is_none x.remote then Unsuccessful else Open

abbrev pub new_state : PlanAction → ActionState
new_state x = record {
  producers = producers_of x;
  local = record { group = x.local; free = true };
  remote = record { group = x.remote; free = true };
  granted = false;
  own = new_standing x;
}

abbrev pub new_states : Plan → List ActionState
new_states p = map new_state p.actions

-- ---- what is queued

abbrev pub seat_of : Branch → ActionState → BranchState
seat_of Local x = x.local
seat_of Remote x = x.remote

abbrev pub is_of : ℕ → BranchState → Bool
is_of g s = unwrap_or (option_map (λ k. k == g) s.group) false

-- it isn't settled by itself, and has no grant
abbrev pub is_open : ActionState → Bool
is_open x = not x.granted && not (is_settled x.own)

abbrev pub has_success : List ActionState → ℕ → Bool
has_success states a = is_success (option_map (λ x. x.own) (slice_get states a))

-- every producer has success
abbrev pub is_ready : List ActionState → ActionState → Bool
is_ready states x = list_all (has_success states) x.producers

-- so of the action of this number
abbrev pub is_ready_at : List ActionState → ℕ → Bool
is_ready_at states a = unwrap_or (option_map (is_ready states) (slice_get states a)) false

abbrev pub is_open_at : List ActionState → ℕ → Bool
is_open_at states a = unwrap_or (option_map is_open (slice_get states a)) false

-- it isn't settled by itself, and every producer has success
abbrev pub waits : List ActionState → ActionState → Bool
waits states x = not (is_settled x.own) && is_ready states x

-- no action does: each is settled by itself, or has a producer without success
abbrev pub none_waits : List ActionState → Bool
none_waits states = list_all (λ x. not (waits states x)) states

-- the branch is of the group and may begin an attempt; its action is open, and each producer has success
abbrev pub may_begin : List ActionState → ℕ → ActionState → BranchState → Bool
may_begin states g x s = is_of g s && (s.free && (is_open x && is_ready states x))

abbrev pub is_queued : List ActionState → ℕ → ℕ → Branch → Bool
is_queued states g a b = unwrap_or (option_map (λ x. may_begin states g x (seat_of b x)) (slice_get states a)) false

-- the branch of the action that is queued in the group: the local one, where both are
abbrev pub queued_branch : List ActionState → ℕ → ActionState → Option Branch
queued_branch states g x =
    if may_begin states g x x.local then Some Local
    else if may_begin states g x x.remote then Some Remote
    else None

-- so of the action of this number
abbrev pub queued_at : List ActionState → ℕ → ℕ → Option Branch
queued_at states g a = option_and_then (queued_branch states g) (slice_get states a)

-- it is the group's queued branch of the least action: the local one, where both are
pub record IsFirst (states : List ActionState) (g a : ℕ) (b : Branch) : Type 0 where
  pub queued : is_queued states g a b ≡ true
  pub least : (c : ℕ) (d : Branch) → c < a → is_queued states g c d ≡ false
  pub local_first : b ≡ Remote → is_queued states g a Local ≡ false

-- nothing of the group is queued, or it is the first
abbrev pub IsEarliest : List ActionState → ℕ → Option (ℕ × Branch) → Type 0
IsEarliest states g None = (a : ℕ) (b : Branch) → is_queued states g a b ≡ false
IsEarliest states g (Some x) = IsFirst states g x.0 x.1

-- of the actions from a on, the first with a queued branch
abbrev pub earliest_from : List ActionState → ℕ → ℕ → List ActionState → Option (ℕ × Branch)
earliest_from all g a [] = None
earliest_from all g a (x ∷ xs) = or_else (option_map (λ b. (a, b)) (queued_branch all g x)) (earliest_from all g (a + 1) xs)

-- the same as a search
abbrev pub earliest_in : List ActionState → ℕ → Option (ℕ × Branch)
earliest_in states g = earliest_from states g 0 states

-- ---- what is queued in several groups

-- one of these groups runs the branch
abbrev pub is_of_any : (ℕ → Bool) → BranchState → Bool
is_of_any groups s = unwrap_or (option_map groups s.group) false

-- it may begin an attempt there
abbrev pub may_begin_among : List ActionState → (ℕ → Bool) → ActionState → BranchState → Bool
may_begin_among states groups x s = s.free && (is_open x && is_ready states x) && is_of_any groups s

-- the branch of the action that is queued in one of these groups: the local one, where both are
abbrev pub queued_among : List ActionState → (ℕ → Bool) → ActionState → Option Branch
queued_among states groups x =
    if may_begin_among states groups x x.local then Some Local
    else if may_begin_among states groups x x.remote then Some Remote
    else None

-- of the actions from a on, the first with such a branch
abbrev pub least_from : List ActionState → (ℕ → Bool) → ℕ → List ActionState
    → Option (ℕ × Branch)
least_from all groups a [] = None
least_from all groups a (x ∷ xs) =
    or_else (option_map (λ b. (a, b)) (queued_among all groups x))
    (least_from all groups (a + 1) xs)

-- so of all actions
abbrev pub least_among : List ActionState → (ℕ → Bool) → Option (ℕ × Branch)
least_among states groups = least_from states groups 0 states

-- ---- what a call makes of it

abbrev pub seat_with : Bool → BranchState → BranchState
seat_with free s = record { group = s.group; free = free }

abbrev pub state_with : Branch → Bool → ActionState → ActionState
state_with Local free x = record x { local = seat_with free x.local }
state_with Remote free x = record x { remote = seat_with free x.remote }

-- the branch has begun an attempt
abbrev pub with_taken : List ActionState → ℕ → Branch → List ActionState
with_taken states a b = update (state_with b false) states a

-- it may begin another
abbrev pub with_again : List ActionState → ℕ → Branch → List ActionState
with_again states a b = update (state_with b true) states a

abbrev pub granted_state : ActionState → ActionState
granted_state x = record x { granted = true }

abbrev pub with_unwanted : List ActionState → ℕ → List ActionState
with_unwanted states a = update granted_state states a

abbrev pub settled_state : Bool → ActionState → ActionState
settled_state success x = record x { own = if success then Succeeded else Unsuccessful }

abbrev pub with_settled : List ActionState → ℕ → Bool → List ActionState
with_settled states a success = update (settled_state success) states a
