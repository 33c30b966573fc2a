use Rattle.std.proofs.Common.{refl}
use Rattle.journal_text.specs.Placed.{placed_by}
use Rattle.journal_reading.proofs.Names.{other_name}
use Rattle.journal_reading.proofs.Whole.{no_such_row}
use Rattle.journal_reading.proofs.placed.placed_by.Goals as goal

pub returns-in_default : goal.returns-in_default
returns-in_default c = λ d deep.
    no_such_row (placed_by c.args.name.now) (λ row. rw (other_name _ _ c.in_default.not-Placed) refl) d _
