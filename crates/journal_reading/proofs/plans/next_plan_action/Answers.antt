use Rattle.json.specs.Json.{after_end_array}
use Rattle.std.proofs.Common.{◌-◌, ◌∙◌, arith}
use Rattle.journal_text.specs.Reading.{maker_in}
use Rattle.journal_text.specs.Values.{list_in, maybe_in, text_in}
use Rattle.journal_reading.specs.Pulls.{after_begin_array, pull}
use Rattle.journal_reading.proofs.Passing.{misread_by, passed_on}
use Rattle.journal_reading.proofs.Steps.{not_over, opened_row, over, step, stop, unopened}
use Rattle.journal_reading.proofs.plans.next_plan_action.Goals as goal

pub returns-in_err-open : goal.returns-in_err-open
returns-in_err-open c = λ d deep.
    passed_on _ _ c.in_err-open.field-0.0 _ c.from_residual.ensures (misread_by _ (after_begin_array c.args.reader.now) _ c.in_err-open.ensures
    (λ none. unopened _ d _ none))

pub returns-in_err-name : goal.returns-in_err-name
returns-in_err-name c = λ d deep.
    passed_on _ _ c.in_err-name.field-0.0 _ c.from_residual-in_err-name.ensures (misread_by _ (pull text_in (d - 1) c.open.new.reader) _ (c.in_err-name.ensures (d - 1) (omega arith))
    (λ none. opened_row _ d _ _ (omega arith) c.in_ok-open.ensures ∙ stop _ _ (d - 1) _ none))

pub returns-in_err-outputs : goal.returns-in_err-outputs
returns-in_err-outputs c = λ d deep.
    passed_on _ _ c.in_err-outputs.field-0.0 _ c.from_residual-in_err-outputs.ensures (misread_by _ (pull (list_in text_in) (d - 1) c.next_text.new.reader) _ (c.in_err-outputs.ensures (d - 1) (omega arith))
    (λ none. opened_row _ d _ _ (omega arith) c.in_ok-open.ensures ∙ step _ _ (d - 1) _ _ _ (c.in_ok-name.ensures (d - 1) (omega arith)) ∙ stop _ _ (d - 1) _ none))

pub returns-in_err-makers : goal.returns-in_err-makers
returns-in_err-makers c = λ d deep.
    passed_on _ _ c.in_err-makers.field-0.0 _ c.from_residual-in_err-makers.ensures (misread_by _ (pull (list_in maker_in) (d - 1) c.next_texts.new.reader) _ (c.in_err-makers.ensures (d - 1) (omega arith))
    (λ none. opened_row _ d _ _ (omega arith) c.in_ok-open.ensures ∙ step _ _ (d - 1) _ _ _ (c.in_ok-name.ensures (d - 1) (omega arith)) ∙ step _ _ (d - 1) _ _ _ (c.in_ok-outputs.ensures (d - 1) (omega arith)) ∙ stop _ _ (d - 1) _ none))

pub returns-in_err-local : goal.returns-in_err-local
returns-in_err-local c = λ d deep.
    passed_on _ _ c.in_err-local.field-0.0 _ c.from_residual-in_err-local.ensures (misread_by _ (pull maybe_in (d - 1) c.next_makers.new.reader) _ (c.in_err-local.ensures (d - 1) (omega arith))
    (λ none. opened_row _ d _ _ (omega arith) c.in_ok-open.ensures ∙ step _ _ (d - 1) _ _ _ (c.in_ok-name.ensures (d - 1) (omega arith)) ∙ step _ _ (d - 1) _ _ _ (c.in_ok-outputs.ensures (d - 1) (omega arith)) ∙ step _ _ (d - 1) _ _ _ (c.in_ok-makers.ensures (d - 1) (omega arith)) ∙ stop _ _ (d - 1) _ none))

pub returns-in_err-remote : goal.returns-in_err-remote
returns-in_err-remote c = λ d deep.
    passed_on _ _ c.in_err-remote.field-0.0 _ c.from_residual-in_err-remote.ensures (misread_by _ (pull maybe_in (d - 1) c.next_maybe.new.reader) _ (c.in_err-remote.ensures (d - 1) (omega arith))
    (λ none. opened_row _ d _ _ (omega arith) c.in_ok-open.ensures ∙ step _ _ (d - 1) _ _ _ (c.in_ok-name.ensures (d - 1) (omega arith)) ∙ step _ _ (d - 1) _ _ _ (c.in_ok-outputs.ensures (d - 1) (omega arith)) ∙ step _ _ (d - 1) _ _ _ (c.in_ok-makers.ensures (d - 1) (omega arith)) ∙ step _ _ (d - 1) _ _ _ (c.in_ok-local.ensures (d - 1) (omega arith)) ∙ stop _ _ (d - 1) _ none))

pub returns-in_err-end : goal.returns-in_err-end
returns-in_err-end c = λ d deep.
    passed_on _ _ c.in_err-end.field-0.0 _ c.from_residual-in_err-end.ensures (misread_by _ (after_end_array c.next_maybe-2.new.reader) _ c.in_err-end.ensures
    (λ none. opened_row _ d _ _ (omega arith) c.in_ok-open.ensures ∙ step _ _ (d - 1) _ _ _ (c.in_ok-name.ensures (d - 1) (omega arith)) ∙ step _ _ (d - 1) _ _ _ (c.in_ok-outputs.ensures (d - 1) (omega arith)) ∙ step _ _ (d - 1) _ _ _ (c.in_ok-makers.ensures (d - 1) (omega arith)) ∙ step _ _ (d - 1) _ _ _ (c.in_ok-local.ensures (d - 1) (omega arith)) ∙ step _ _ (d - 1) _ _ _ (c.in_ok-remote.ensures (d - 1) (omega arith)) ∙ not_over _ (d - 1) _ none))

pub returns : goal.returns
returns c = λ d deep.
    opened_row _ d _ _ (omega arith) c.in_ok-open.ensures
    ∙ step _ _ (d - 1) _ _ _ (c.in_ok-name.ensures (d - 1) (omega arith))
    ∙ step _ _ (d - 1) _ _ _ (c.in_ok-outputs.ensures (d - 1) (omega arith))
    ∙ step _ _ (d - 1) _ _ _ (c.in_ok-makers.ensures (d - 1) (omega arith))
    ∙ step _ _ (d - 1) _ _ _ (c.in_ok-local.ensures (d - 1) (omega arith))
    ∙ step _ _ (d - 1) _ _ _ (c.in_ok-remote.ensures (d - 1) (omega arith))
    ∙ over _ (d - 1) _ _ c.in_ok-end.ensures
