use Rattle.std.proofs.Common.{◌≡◌, drop}
use Rattle.std.specs.Prelude.{replicate}
use Rattle.placed_berths.specs.Homes.{homes_from}
use Rattle.placed_berths.proofs.homes.homes_of.Given as goal

-- with the pools from here on
abbrev pub invariant-loop-place : goal.invariant-loop-place
invariant-loop-place l = homes_from (drop l.place l.pools) l.place l.homes.items
    ≡ homes_from l.pools 0 (replicate l.groups 0)
