use Rattle.std.proofs.Common.{◌≡◌, ◌++◌, drop, map}
use Rattle.serde_json.specs.View.{view}
use Rattle.journal_text.specs.Fits.{Each, MakerFits}
use Rattle.journal_text.specs.Writing.{maker_data}
use Rattle.journal_text.proofs.plans.makers_value.Given as goal

abbrev pub invariant-loop-item : goal.invariant-loop-item
invariant-loop-item l = record {
  written : map view l.row.values.items ++ map maker_data (drop l.item-index l.items) ≡ map maker_data l.items;
  fits : Each MakerFits (drop l.item-index l.items) → Each MakerFits l.items;
}
