-- What is asked of one group of a pool at a time, and of one action.
use Rattle.std.specs.Prelude.{◌≡◌, ℕ, ◌<◌, Bool, ◌&&◌, Some, length, slice_get}
use Rattle.core_state.specs.declared.state.State.{State}
use Rattle.placed_rules.specs.declared.pools.SharedPlan.{SharedPlan}
use Rattle.placed_rules.specs.declared.pools.SharedPool.{SharedPool}
use Rattle.placed_rules.specs.Pools.{has_group}
use Rattle.shared_laws.specs.Berths.{is_starved}
use Rattle.placed_berths.specs.declared.shared.SharedBerths.{SharedBerths}
use Rattle.placed_berths.specs.Basis.{shared_by}
use Rattle.placed_berths.specs.Choices.{ReadsPools}
use Rattle.placed_berths.specs.Counts.{Facts}
use Rattle.placed_berths.specs.Due.{ReadsDelay}

-- the group is of the pool, and starved where no branch waits
abbrev pub starved_in : SharedPlan → State → SharedPool → ℕ → Bool
starved_in q s pool g = has_group pool g && is_starved q s pool g

-- the pool stands at this place, and what is read is there
pub record MayAsk (x : SharedBerths) (s : State) (pool : SharedPool) (p : ℕ) : Type 0 where
  pub own : slice_get x.pools p ≡ Some pool
  pub reads : ReadsPools (shared_by x s.plan) s

-- so, and what is counted of the action
pub record AsksPool (f : Facts) (x : SharedBerths) (s : State) (pool : SharedPool) (p a : ℕ)
    : Type 0 where
  pub pool_there : MayAsk x s pool p
  pub reads : ReadsDelay f s
  pub known : a < length s.ready
