use Rattle.journal_text.specs.Options.{each}
use Rattle.std.proofs.Common.{◌-◌, arith}
use Rattle.journal_text.specs.Placed.{pool_in}
use Rattle.journal_reading.specs.Pulls.{after_begin_array}
use Rattle.journal_reading.proofs.Passing.{along, misread_by, passed_on}
use Rattle.journal_reading.proofs.Steps.{opened_row, unopened}
use Rattle.journal_reading.proofs.placed.next_pools.Goals as goal

pub returns-in_err-open : goal.returns-in_err-open
returns-in_err-open c = λ d deep.
    passed_on _ _ c.in_err-open.field-0.0 _ c.from_residual.ensures (misread_by _ (after_begin_array c.args.reader.now) _ c.in_err-open.ensures
    (λ none. unopened (each pool_in) d _ none))

pub returns : goal.returns
returns c = λ d deep. along _ _ _ _ (opened_row (each pool_in) d _ _ (omega arith) c.in_ok-open.ensures) (c.each_pool.ensures (d - 1) (omega arith))
