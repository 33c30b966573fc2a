-- Plans whose every branch has a berth to run on, if groups share the berths of a pool.
use Rattle.std.specs.Prelude.{◌≡◌, ◌<◌, nat_lt, ℕ, true, Some, slice_get}
use Rattle.run_plan.specs.declared.plan.Branch.{Branch}
use Rattle.run_plan.specs.declared.plan.PlanAction.{PlanAction}
use Rattle.run_plan.specs.Groups.{group_of}
use Rattle.placed_rules.specs.declared.pools.SharedPlan.{SharedPlan}
use Rattle.placed_rules.specs.declared.pools.SharedPool.{SharedPool}
use Rattle.placed_rules.specs.Needs.{most_lines}
use Rattle.placed_rules.specs.Pools.{has_group, pool_of, seats}

-- some berth is of a pool in which the group stands, and of which it may hold a line
pub record HasPool (s : SharedPlan) (g : ℕ) : Type 0 where
  pub berth : ℕ
  pub within : berth < seats s
  pub pool : SharedPool
  pub is : pool_of s berth ≡ Some pool
  pub member : has_group pool g ≡ true
  pub room : nat_lt 0 (most_lines s pool g) ≡ true

-- each group that a branch names has one
abbrev pub EachHasPool : SharedPlan → Type 0
EachHasPool s = (a : ℕ) (x : PlanAction) (b : Branch) (g : ℕ) → slice_get s.plan.actions a ≡ Some x
    → group_of x b ≡ Some g → HasPool s g
