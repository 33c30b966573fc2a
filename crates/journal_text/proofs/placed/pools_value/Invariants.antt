use Rattle.std.proofs.Common.{◌≡◌, ◌++◌, drop, map}
use Rattle.serde_json.specs.View.{view}
use Rattle.journal_text.specs.Fits.{Each, PoolFits}
use Rattle.journal_text.specs.Placed.{pool_data}
use Rattle.journal_text.proofs.placed.pools_value.Given as goal

abbrev pub invariant-loop-item : goal.invariant-loop-item
invariant-loop-item l = record {
  written : map view l.row.values.items ++ map pool_data (drop l.item-index l.items) ≡ map pool_data l.items;
  fits : Each PoolFits (drop l.item-index l.items) → Each PoolFits l.items;
}
