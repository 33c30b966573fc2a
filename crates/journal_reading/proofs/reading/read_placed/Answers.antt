use Rattle.std.proofs.Common.{ap}
use Rattle.placed_rules.specs.declared.placed.Placed.{Placed}
use Rattle.journal_text.specs.Lines.{placed_of, placed_row_of}
use Rattle.journal_text.specs.Placed.{alone, or_else}
use Rattle.journal_reading.proofs.Passing.{along}
use Rattle.journal_reading.proofs.reading.read_placed.Goals as goal

pub returns-in-Err-Otherwise : goal.returns-in-Err-Otherwise
returns-in-Err-Otherwise c =
    let line = c.args.line.now in
    let none = rw c.in-Err-Otherwise.field-0-is at c.in-Err-Otherwise.ensures in
    along (λ (x : Placed). x) c.read_row.result (placed_of line) (placed_row_of line)
    (ap (λ o. or_else (alone o) (placed_row_of line)) none) c.read_row.ensures
