use Rattle.json.specs.Json.{after_end_array}
use Rattle.std.proofs.Common.{◌∙◌, arith}
use Rattle.journal_text.specs.Reading.{attempt_at, found_in}
use Rattle.journal_reading.specs.Pulls.{pull, pull_row}
use Rattle.journal_reading.proofs.Passing.{front_misread, misread_by, passed_on}
use Rattle.journal_reading.proofs.Steps.{front_step, front_stop, not_over, over, step, stop}
use Rattle.journal_reading.proofs.calls.claim_by.Goals as goal

pub returns-in_err-of : goal.returns-in_err-of
returns-in_err-of c = λ d deep.
    passed_on _ _ c.in_err-of.field-0.0 _ c.from_residual.ensures (misread_by _ (pull_row attempt_at d c.args.reader.now) _ (front_misread 1 attempt_at _ c.args.reader.now _ d c.in_err-of.ensures (omega arith))
    (λ none. front_stop attempt_at _ d _ none))

pub returns-in_err-found : goal.returns-in_err-found
returns-in_err-found c = λ d deep.
    passed_on _ _ c.in_err-found.field-0.0 _ c.from_residual-in_err-found.ensures (misread_by _ (pull found_in d c.next_attempt.new.reader) _ (c.in_err-found.ensures d (omega arith))
    (λ none. front_step attempt_at _ d _ _ _ (c.in_ok-of.ensures d (omega arith)) ∙ stop _ _ d _ none))

pub returns-in_err-end : goal.returns-in_err-end
returns-in_err-end c = λ d deep.
    passed_on _ _ c.in_err-end.field-0.0 _ c.from_residual-in_err-end.ensures (misread_by _ (after_end_array c.next_found.new.reader) _ c.in_err-end.ensures
    (λ none. front_step attempt_at _ d _ _ _ (c.in_ok-of.ensures d (omega arith)) ∙ step _ _ d _ _ _ (c.in_ok-found.ensures d (omega arith)) ∙ not_over _ d _ none))

pub returns : goal.returns
returns c = λ d deep.
    front_step attempt_at _ d _ _ _ (c.in_ok-of.ensures d (omega arith))
    ∙ step _ _ d _ _ _ (c.in_ok-found.ensures d (omega arith))
    ∙ over _ d _ _ c.in_ok-end.ensures
