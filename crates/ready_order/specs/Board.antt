-- When what is noted beside the states is right.
use Rattle.std.specs.Prelude.{◌≡◌, ℕ, ◌==◌, ◌<◌, ◌≤◌, ◌^◌, Bool, true, false, ◌&&◌, ◌||◌, not, is_some, unwrap_or, option_map, option_and_then, Option, Some, None, if◌then◌else◌, List, [], length, map, slice_get, slice_set, get_or}
use Rattle.std.specs.Bool.{beq}
use Rattle.std.specs.List.{list_any, prefix_len}
use Rattle.run_plan.specs.declared.plan.Branch.{Branch}
use Rattle.run_plan.specs.declared.plan.Branch.TheVariants.{Local, Remote}
use Rattle.ready_order.specs.declared.winner_tree.TheConstants.{ABSENT}
use Rattle.ready_order.specs.declared.ActionState.{ActionState}
use Rattle.ready_order.specs.Facts.{Facts}
use Rattle.ready_order.specs.Queue.{has_success, is_of, is_of_any, is_open, waits, queued_branch}

-- ---- what never changes: who makes an action's inputs, and which groups run its branches

pub record Shape : Type 0 where
  pub producers : List ℕ
  pub local : Option ℕ
  pub remote : Option ℕ

abbrev pub shape_of : ActionState → Shape
shape_of x = record { producers = x.producers; local = x.local.group; remote = x.remote.group }

abbrev pub shapes : List ActionState → List Shape
shapes states = map shape_of states

abbrev pub is_named : ℕ → Option ℕ → Bool
is_named g o = unwrap_or (option_map (λ k. k == g) o) false

-- the group runs a branch of the action
abbrev pub names : ℕ → Shape → Bool
names g s = is_named g s.local || is_named g s.remote

abbrev pub is_in : ℕ → List ℕ → Bool
is_in n xs = list_any (λ x. x == n) xs

-- of each action the users among the first so many: whoever takes an input from it is one of them
pub record AreUsers (all : List Shape) (first : ℕ) (users : List (List ℕ)) : Type 0 where
  pub size : length users ≡ length all
  pub known : (a c : ℕ) → is_in c (get_or users a []) ≡ true → c < first
  pub among : (a c : ℕ) (s : Shape) → c < first → slice_get all c ≡ Some s → a < length all
      → is_in a s.producers ≡ true → is_in c (get_or users a []) ≡ true

-- the user is put on the list of each of these producers
pub record IsAdded (producers : List ℕ) (user : ℕ) (old new : List (List ℕ)) : Type 0 where
  pub size : length new ≡ length old
  pub each : (a c : ℕ) → a < length old
      → is_in c (get_or new a []) ≡ (is_in c (get_or old a []) || (is_in a producers && user == c))

-- ---- what changes

-- the users of an action that is to have this success, where it has had another
abbrev pub affected : List ActionState → List (List ℕ) → ℕ → Bool → List ℕ
affected states users a success =
    if not (beq (has_success states a) success) then get_or users a [] else []

-- how many of the producers, from the first on, have success
abbrev pub supplied_by : List ActionState → List ℕ → ℕ
supplied_by states producers = prefix_len (has_success states) producers

abbrev pub has_queued : List ActionState → ℕ → ActionState → Bool
has_queued states g x = is_some (queued_branch states g x)

-- at its place an action's number stands, or ABSENT
abbrev pub mark : ℕ → Bool → ℕ
mark a here = if here then a else ABSENT

-- the branch that is queued in the group where the producers of the action are ready, or aren't
abbrev pub queued_if : Bool → ℕ → ActionState → Option Branch
queued_if ready g x =
    if is_of g x.local && (x.local.free && (is_open x && ready)) then Some Local
    else if is_of g x.remote && (x.remote.free && (is_open x && ready)) then Some Remote
    else None

-- so for the groups of a set
abbrev pub queued_among_if : Bool → (ℕ → Bool) → ActionState → Option Branch
queued_among_if ready groups x =
    if x.local.free && (is_open x && ready) && is_of_any groups x.local then Some Local
    else if x.remote.free && (is_open x && ready) && is_of_any groups x.remote then Some Remote
    else None

-- whether the group has a queued branch of the action stands at the action's place in its queue
abbrev pub posted : List (List ℕ) → Option ℕ → ℕ → ActionState → Bool → List (List ℕ)
posted queues None a x ready = queues
posted queues (Some g) a x ready =
    slice_set queues g (slice_set (get_or queues g []) a (mark a (is_some (queued_if ready g x))))

-- the place of an action in the queue of a group
abbrev pub place : List (List ℕ) → ℕ → ℕ → Option ℕ
place queues g a = option_and_then (λ q. slice_get q a) (slice_get queues g)

-- each list has a place for each action, each named group has a queue, and in the queue of a group
-- that runs no branch of an action the action never stands
pub record Fits (all : List Shape) (f : Facts) : Type 0 where
  pub supplied : length f.supplied ≡ length all
  pub waiting : length f.waiting ≡ length all
  pub queues : (g : ℕ) (q : List ℕ) → slice_get f.queues g ≡ Some q → length q ≡ length all
  pub named : (a g : ℕ) (s : Shape) → slice_get all a ≡ Some s → names g s ≡ true
      → g < length f.queues
  pub strange : (a g : ℕ) (s : Shape) → slice_get all a ≡ Some s → names g s ≡ false
      → g < length f.queues → place f.queues g a ≡ Some ABSENT

-- what is noted of the action is right
pub record IsRight (states : List ActionState) (f : Facts) (a : ℕ) (x : ActionState) : Type 0 where
  pub supplied : slice_get f.supplied a ≡ Some (supplied_by states x.producers)
  pub waiting : slice_get f.waiting a ≡ Some (mark a (waits states x))
  pub queued : (g : ℕ) → g < length f.queues
      → place f.queues g a ≡ Some (mark a (has_queued states g x))

-- the same is noted of the action
pub record SameOf (f h : Facts) (a : ℕ) : Type 0 where
  pub groups : length h.queues ≡ length f.queues
  pub supplied : slice_get h.supplied a ≡ slice_get f.supplied a
  pub waiting : slice_get h.waiting a ≡ slice_get f.waiting a
  pub queued : (g : ℕ) → place h.queues g a ≡ place f.queues g a

-- so many of its producers, from the first on, are known to have success
abbrev pub AreKnown : List ActionState → ℕ → ℕ → Type 0
AreKnown states a known = (x : ActionState) → slice_get states a ≡ Some x
    → known ≤ supplied_by states x.producers

abbrev pub RightAt : List ActionState → Facts → ℕ → Type 0
RightAt states f a = (x : ActionState) → slice_get states a ≡ Some x → IsRight states f a x

-- what is noted of each action is right
pub record IsNoted (states : List ActionState) (users : List (List ℕ)) (f : Facts) : Type 0 where
  pub small : length states ≤ 2 ^ 32
  pub linked : AreUsers (shapes states) (length states) users
  pub fits : Fits (shapes states) f
  pub right : (a : ℕ) → RightAt states f a
