use Rattle.std.proofs.Common.{◌≡◌, ◌++◌, drop, map}
use Rattle.serde_json.specs.View.{view}
use Rattle.journal_text.specs.Fits.{Each, IsCount}
use Rattle.journal_text.specs.Values.{count_data}
use Rattle.journal_text.proofs.placed.counts_value.Given as goal

abbrev pub invariant-loop-item : goal.invariant-loop-item
invariant-loop-item l = record {
  written : map view l.row.values.items ++ map count_data (drop l.item-index l.items) ≡ map count_data l.items;
  fits : Each IsCount (drop l.item-index l.items) → Each IsCount l.items;
}
