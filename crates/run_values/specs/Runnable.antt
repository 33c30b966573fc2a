-- Plans whose every branch has a berth to run on, if groups have berths of their own.
use Rattle.std.specs.Prelude.{◌≡◌, ◌<◌, ℕ, Some, slice_get}
use Rattle.run_plan.specs.declared.plan.Branch.{Branch}
use Rattle.run_plan.specs.declared.plan.Plan.{Plan}
use Rattle.run_plan.specs.declared.plan.PlanAction.{PlanAction}
use Rattle.run_plan.specs.Groups.{berth_group, berths, group_of}

-- some berth of the plan is the group's
pub record HasBerth (p : Plan) (g : ℕ) : Type 0 where
  pub berth : ℕ
  pub within : berth < berths p
  pub is : berth_group p berth ≡ Some g

-- each group that a branch names has one
abbrev pub EachHasBerth : Plan → Type 0
EachHasBerth p = (a : ℕ) (x : PlanAction) (b : Branch) (g : ℕ) → slice_get p.actions a ≡ Some x
    → group_of x b ≡ Some g → HasBerth p g
