use Rattle.std.proofs.Common.{◌≡◌, ◌≤◌, take}
use Rattle.std.specs.Prelude.{sum_by}
use Rattle.placed_berths.proofs.pools.berths_of.Given as goal

-- those so far, which are few
abbrev pub invariant-loop-pool : goal.invariant-loop-pool
invariant-loop-pool l = (l.berths ≡ sum_by (λ x. x.berths) (take l.pool-index l.pools))
    × (l.berths ≤ 64)
