use Rattle.std.proofs.Common.{◌≡◌, ◌++◌, drop, map}
use Rattle.serde_json.specs.View.{view}
use Rattle.journal_text.specs.Fits.{Each, FileFits}
use Rattle.journal_text.specs.Writing.{file_data}
use Rattle.journal_text.proofs.calls.files_value.Given as goal

abbrev pub invariant-loop-item : goal.invariant-loop-item
invariant-loop-item l = record {
  written : map view l.row.values.items ++ map file_data (drop l.item-index l.items) ≡ map file_data l.items;
  fits : Each FileFits (drop l.item-index l.items) → Each FileFits l.items;
}
