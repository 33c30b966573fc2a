-- What holds where a lane is given an order, and how many Ticks are noted.
use Rattle.std.specs.Prelude.{◌≡◌, ℕ, zero, suc, ◌+◌, ◌/◌, ◌==◌, nat_le, Bool, true, false, ◌&&◌, Option, Some, None, unwrap_or, option_map, if◌then◌else◌, List, ◌∷◌, length, filter}
use Rattle.run_plan.specs.declared.plan.Plan.{Plan}
use Rattle.exec_journal.specs.Entry.{Entry}
use Rattle.exec_journal.specs.declared.reply.Reply.{Reply}
use Rattle.exec_journal.specs.declared.reply.Reply.TheVariants as reply
use Rattle.exec_journal.specs.declared.reply.Why.TheVariants as why
use Rattle.exec_journal.specs.History.{AtEach}
use Rattle.exec_journal.specs.Entries.{attempt_of}
use Rattle.exec_journal.specs.Words.{lines_of}
use Rattle.exec_journal.specs.Seated.{group_for, group_on}
use Rattle.exec_journal.specs.Kept.{OrdersKept, own_berths_kept}
use Rattle.placed_rules.specs.declared.placed.Placed.{Placed}
use Rattle.placed_rules.specs.declared.placed.Seating.{Seating}
use Rattle.placed_rules.specs.declared.placed.Seating.TheVariants.{Own, Pools}
use Rattle.placed_rules.specs.declared.pools.SharedPlan.{SharedPlan}
use Rattle.placed_rules.specs.declared.pools.SharedPool.{SharedPool}
use Rattle.placed_rules.specs.Pools.{pool_of, seats, same_pool, has_group}
use Rattle.placed_rules.specs.Placed.{on_own, on_pools, shared_by}
use Rattle.placed_rules.specs.Bounds.{TicksAreFew}
use Rattle.placed_rules.specs.Needs.{is_held, is_starved, may_evict}

-- the group is one of the pool's, and starved
abbrev pub is_for_starved : SharedPlan → Option ℕ → List Entry → Option SharedPool → Option ℕ → Bool
is_for_starved s ticks j (Some pool) (Some g) = has_group pool g && is_starved s ticks j pool g
is_for_starved s ticks j _ _ = false

abbrev pub same_group : Option ℕ → Option ℕ → Bool
same_group (Some g) (Some k) = g == k
same_group _ _ = false

-- a Launch is for a starved group of the berth's pool; a Send is of its line's group; and a line is
-- evicted only where the rule gives it up
abbrev pub shared_kept : SharedPlan → Option ℕ → List Entry → ℕ → Reply → Bool
shared_kept s ticks j w (reply.Launch l a b t) =
    is_for_starved s ticks j (pool_of s w) (group_for s.plan (attempt_of a b t))
shared_kept s ticks j w (reply.Send l n a b t) =
    same_group (group_for s.plan (attempt_of a b t)) (group_on s.plan j l)
shared_kept s ticks j w (reply.Kill l why.Evicted) =
    unwrap_or (option_map (λ pool. may_evict s ticks j w pool l) (pool_of s w)) false
shared_kept s ticks j w _ = true

-- the lines that may still have a process, of those berths of the pool of w that are below n
abbrev pub held_in : SharedPlan → List Entry → ℕ → ℕ → ℕ
held_in s j w zero = 0
held_in s j w (suc n) = held_in s j w n
    + (if same_pool s n w then length (filter (is_held j) (lines_of j n)) else 0)

-- those berths
abbrev pub berths_below : SharedPlan → ℕ → ℕ → ℕ
berths_below s w zero = 0
berths_below s w (suc n) = berths_below s w n + (if same_pool s n w then 1 else 0)

-- a pool has no more lines that may still have a process than berths
abbrev pub has_berths : SharedPlan → List Entry → ℕ → Bool
has_berths s j w = nat_le (held_in s j w (seats s)) (berths_below s w (seats s))

pub record PoolsKept (s : SharedPlan) (ticks : Option ℕ) (j : List Entry) : Type 0 where
  pub shared : AtEach (λ before e. shared_kept s ticks before (e.lane / 2) e.reply ≡ true) j
  pub processes : AtEach (λ before e. (w : ℕ) → has_berths s (e ∷ before) w ≡ true) j

-- ---- of either seating

abbrev pub kept_on : Plan → Seating → Option ℕ → List Entry → Type 0
kept_on p Own ticks j = AtEach (λ before e. own_berths_kept p before (e.lane / 2) e.reply ≡ true) j
kept_on p (Pools pools instances) ticks j = PoolsKept (shared_by p pools instances) ticks j

-- each order was due when it was given, and on the berths that it needs; and Ticks end by themselves
pub record PlacedKept (x : Placed) (j : List Entry) : Type 0 where
  pub orders : OrdersKept x.plan j
  pub seated : kept_on x.plan x.seating x.ticks j
  pub ticks : TicksAreFew x.plan x.ticks j

-- of shared berths, where no branch waits
abbrev pub SharedKept : SharedPlan → List Entry → Type 0
SharedKept s j = PlacedKept (on_pools s None) j

-- of the plan's own berths, where a local branch waits for n Ticks
abbrev pub DelayedKept : Plan → ℕ → List Entry → Type 0
DelayedKept p n j = PlacedKept (on_own p (Some n)) j
