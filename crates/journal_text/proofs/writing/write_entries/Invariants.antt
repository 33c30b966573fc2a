use Rattle.std.proofs.Common.{◌≡◌, ◌++◌, drop}
use Rattle.std.specs.Prelude.{string_bytes}
use Rattle.std.specs.List.{flat_map}
use Rattle.journal_text.specs.Fits.{Each}
use Rattle.journal_text.specs.Lines.{IsWrittenEntry, entries_text}
use Rattle.journal_text.proofs.Written.{with_feed}
use Rattle.journal_text.proofs.writing.write_entries.Given as goal

abbrev pub invariant-loop-entry : goal.invariant-loop-entry
invariant-loop-entry l = record {
  text : string_bytes l.text ++ flat_map with_feed (drop l.entry-index l.entries) ≡ entries_text (string_bytes l.fn.text) l.entries;
  again : Each IsWrittenEntry (drop l.entry-index l.entries) → Each IsWrittenEntry l.entries;
}
