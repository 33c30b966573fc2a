use Rattle.std.proofs.Common.{◌≡◌, ◌++◌, drop, map}
use Rattle.serde_json.specs.View.{view}
use Rattle.journal_text.specs.Fits.{Each, GroupFits}
use Rattle.journal_text.specs.Writing.{group_data}
use Rattle.journal_text.proofs.plans.groups_value.Given as goal

abbrev pub invariant-loop-item : goal.invariant-loop-item
invariant-loop-item l = record {
  written : map view l.row.values.items ++ map group_data (drop l.item-index l.items) ≡ map group_data l.items;
  fits : Each GroupFits (drop l.item-index l.items) → Each GroupFits l.items;
}
