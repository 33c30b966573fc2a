-- What the policy keeps, and what a Tick makes of it.
use Rattle.std.specs.Prelude.{◌≡◌, ℕ, ◌+◌, ◌<◌, ◌==◌, nat_le, nat_lt, Bool, false, ◌&&◌, ◌||◌, Option, Some, None, option_map, unwrap_or, if◌then◌else◌, List, length, slice_get, slice_index}
use Rattle.ready_order.specs.declared.ActionState.{ActionState}
use Rattle.ready_order.specs.Queue.{is_ready_at}

-- for how many Ticks a local branch waits, of each action how many came since its inputs were made,
-- up to those, and a 1 unless it is known that its local branch waits
pub record Facts : Type 0 where
  pub ticks : ℕ
  pub counts : List ℕ
  pub marks : List ℕ

abbrev pub count_at : Facts → ℕ → ℕ
count_at f a = unwrap_or (slice_get f.counts a) 0

abbrev pub is_marked : Facts → ℕ → Bool
is_marked f a = slice_index f.marks a == 1

abbrev pub capped : ℕ → ℕ → ℕ
capped most n = if nat_lt n most then n else most

-- one more, where the action's inputs are made; they are where a Tick was counted before
abbrev pub more : Bool → ℕ → ℕ → ℕ
more made most n = if nat_lt n most && (nat_lt 0 n || made) then n + 1 else n

abbrev pub is_action : Option ℕ → ℕ → Bool
is_action (Some a) c = a == c
is_action None c = false

-- an action that isn't marked now wasn't before, and isn't one of these
pub record Unmarked (f g : Facts) (these : ℕ → Bool) : Type 0 where
  pub size : length g.marks ≡ length f.marks
  pub each : (a : ℕ) → a < length g.marks → is_marked g a ≡ false
      → (is_marked f a ≡ false) × (these a ≡ false)

-- a Tick was counted, and the actions that wait for no more are marked
pub record IsCounted (states : List ActionState) (f g : Facts) : Type 0 where
  pub ticks : g.ticks ≡ f.ticks
  pub each : (a : ℕ) → slice_get g.counts a
      ≡ option_map (more (is_ready_at states a) f.ticks) (slice_get f.counts a)
  pub marks : Unmarked f g (λ a. nat_le f.ticks (count_at g a))

-- this action was marked, if one
pub record IsMarked (this : Option ℕ) (f g : Facts) : Type 0 where
  pub ticks : g.ticks ≡ f.ticks
  pub counts : g.counts ≡ f.counts
  pub marks : Unmarked f g (is_action this)
