use Rattle.json.specs.Json.{after_end_array}
use Rattle.journal_reading.proofs.Passing.{misread_by, passed_on}
use Rattle.journal_reading.proofs.Steps.{not_over, over}
use Rattle.journal_reading.proofs.placed.own.Goals as goal

pub returns-in_err-end : goal.returns-in_err-end
returns-in_err-end c = λ d deep.
    passed_on _ _ c.in_err-end.field-0.0 _ c.from_residual.ensures (misread_by _ (after_end_array c.args.reader.now) _ c.in_err-end.ensures
    (λ none. not_over _ d _ none))

pub returns : goal.returns
returns c = λ d deep.
    over _ d _ _ c.in_ok-end.ensures
