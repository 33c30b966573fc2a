use Rattle.journal_text.specs.Placed.{ticks_for}
use Rattle.journal_text.specs.Values.{count_in}
use Rattle.journal_reading.specs.Pulls.{pull}
use Rattle.journal_reading.proofs.Passing.{misread_by, passed_on}
use Rattle.journal_reading.proofs.Steps.{not_read, read_on}
use Rattle.journal_reading.proofs.placed.next_ticks.Goals as goal

pub returns-in_err-number : goal.returns-in_err-number
returns-in_err-number c = λ d deep.
    passed_on _ _ c.in_err-number.field-0.0 _ c.from_residual.ensures (misread_by _ (pull count_in d c.args.reader.now) _ (c.in_err-number.ensures d deep)
    (λ none. not_read count_in (ticks_for c.args.seating.now) d _ none))

pub returns : goal.returns
returns c = λ d deep. read_on _ count_in (ticks_for c.args.seating.now) d _ _ _ _ (c.in_ok-number.ensures d deep) c.ticks_for.ensures
