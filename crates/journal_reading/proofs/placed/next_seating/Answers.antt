use Rattle.journal_text.specs.Placed.{seating_by}
use Rattle.std.proofs.Common.{◌-◌, arith}
use Rattle.journal_reading.specs.Pulls.{after_name}
use Rattle.journal_reading.proofs.Passing.{along, misread_by, passed_on}
use Rattle.journal_reading.proofs.Steps.{named_row, unnamed}
use Rattle.journal_reading.proofs.placed.next_seating.Goals as goal

pub returns-in_err-name : goal.returns-in_err-name
returns-in_err-name c = λ d deep.
    passed_on _ _ c.in_err-name.field-0.0 _ c.from_residual.ensures (misread_by _ (after_name c.args.reader.now) _ c.in_err-name.ensures
    (λ none. unnamed seating_by d _ none))

pub returns : goal.returns
returns c = λ d deep. along _ _ _ _ (named_row seating_by d _ _ _ (omega arith) c.in_ok-name.ensures) (c.seating_by.ensures (d - 1) (omega arith))
