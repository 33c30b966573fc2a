use Rattle.std.proofs.Common.{◌≡◌, drop}
use Rattle.placed_rules.specs.Pools.{pool_from}
use Rattle.placed_berths.proofs.pools.pool_of.Given as goal

-- among the pools from here on
abbrev pub invariant-loop-pool : goal.invariant-loop-pool
invariant-loop-pool l = pool_from (drop l.pool-index l.pools) l.rest ≡ pool_from l.pools l.berth
