use Rattle.std.proofs.Common.{◌≡◌, drop}
use Rattle.placed_rules.specs.Pools.{pool_at}
use Rattle.placed_berths.proofs.pools.pool_at.Given as goal

-- among the pools from here on
abbrev pub invariant-loop-place : goal.invariant-loop-place
invariant-loop-place l = pool_at (drop l.place l.pools) l.place l.rest ≡ pool_at l.pools 0 l.berth
