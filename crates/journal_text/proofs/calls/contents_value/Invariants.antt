use Rattle.std.proofs.Common.{◌≡◌, ◌++◌, drop, map}
use Rattle.serde_json.specs.View.{view}
use Rattle.base64.specs.GeneralPurpose.{IsBytes}
use Rattle.journal_text.specs.Fits.{Each}
use Rattle.journal_text.specs.Values.{content_data}
use Rattle.journal_text.proofs.calls.contents_value.Given as goal

abbrev pub invariant-loop-item : goal.invariant-loop-item
invariant-loop-item l = record {
  written : map view l.row.values.items ++ map content_data (drop l.item-index l.items) ≡ map content_data l.items;
  fits : Each IsBytes (drop l.item-index l.items) → Each IsBytes l.items;
}
