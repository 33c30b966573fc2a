use Rattle.json.specs.Json.{after_end_array}
use Rattle.std.proofs.Common.{◌∙◌, arith}
use Rattle.journal_text.specs.Placed.{seating_in, ticks_in}
use Rattle.journal_text.specs.Reading.{plan_in}
use Rattle.journal_reading.specs.Pulls.{pull}
use Rattle.journal_reading.proofs.Passing.{misread_by, passed_on}
use Rattle.journal_reading.proofs.Steps.{not_over, over, step, stop}
use Rattle.journal_reading.proofs.placed.placed_row.Goals as goal

pub returns-in_err-plan : goal.returns-in_err-plan
returns-in_err-plan c = λ d deep.
    passed_on _ _ c.in_err-plan.field-0.0 _ c.from_residual.ensures (misread_by _ (pull plan_in d c.args.reader.now) _ (c.in_err-plan.ensures d (omega arith))
    (λ none. stop _ _ d _ none))

pub returns-in_err-seating : goal.returns-in_err-seating
returns-in_err-seating c = λ d deep.
    passed_on _ _ c.in_err-seating.field-0.0 _ c.from_residual-in_err-seating.ensures (misread_by _ (pull seating_in d c.next_plan.new.reader) _ (c.in_err-seating.ensures d (omega arith))
    (λ none. step _ _ d _ _ _ (c.in_ok-plan.ensures d (omega arith)) ∙ stop _ _ d _ none))

pub returns-in_err-ticks : goal.returns-in_err-ticks
returns-in_err-ticks c = λ d deep.
    passed_on _ _ c.in_err-ticks.field-0.0 _ c.from_residual-in_err-ticks.ensures (misread_by _ (pull (ticks_in c.in_ok-seating.seating) d c.next_seating.new.reader) _ (c.in_err-ticks.ensures d (omega arith))
    (λ none. step _ _ d _ _ _ (c.in_ok-plan.ensures d (omega arith)) ∙ step _ _ d _ _ _ (c.in_ok-seating.ensures d (omega arith)) ∙ stop _ _ d _ none))

pub returns-in_err-end : goal.returns-in_err-end
returns-in_err-end c = λ d deep.
    passed_on _ _ c.in_err-end.field-0.0 _ c.from_residual-in_err-end.ensures (misread_by _ (after_end_array c.next_ticks.new.reader) _ c.in_err-end.ensures
    (λ none. step _ _ d _ _ _ (c.in_ok-plan.ensures d (omega arith)) ∙ step _ _ d _ _ _ (c.in_ok-seating.ensures d (omega arith)) ∙ step _ _ d _ _ _ (c.in_ok-ticks.ensures d (omega arith)) ∙ not_over _ d _ none))

pub returns : goal.returns
returns c = λ d deep.
    step _ _ d _ _ _ (c.in_ok-plan.ensures d (omega arith))
    ∙ step _ _ d _ _ _ (c.in_ok-seating.ensures d (omega arith))
    ∙ step _ _ d _ _ _ (c.in_ok-ticks.ensures d (omega arith))
    ∙ over _ d _ _ c.in_ok-end.ensures
