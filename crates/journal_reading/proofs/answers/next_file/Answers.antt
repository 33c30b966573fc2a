use Rattle.json.specs.Json.{after_end_array}
use Rattle.std.proofs.Common.{◌-◌, ◌∙◌, arith}
use Rattle.journal_text.specs.Values.{content_in, text_in}
use Rattle.journal_reading.specs.Pulls.{after_begin_array, pull}
use Rattle.journal_reading.proofs.Passing.{misread_by, passed_on}
use Rattle.journal_reading.proofs.Steps.{not_over, opened_row, over, step, stop, unopened}
use Rattle.journal_reading.proofs.answers.next_file.Goals as goal

pub returns-in_err-open : goal.returns-in_err-open
returns-in_err-open c = λ d deep.
    passed_on _ _ c.in_err-open.field-0.0 _ c.from_residual.ensures (misread_by _ (after_begin_array c.args.reader.now) _ c.in_err-open.ensures
    (λ none. unopened _ d _ none))

pub returns-in_err-path : goal.returns-in_err-path
returns-in_err-path c = λ d deep.
    passed_on _ _ c.in_err-path.field-0.0 _ c.from_residual-in_err-path.ensures (misread_by _ (pull text_in (d - 1) c.open.new.reader) _ (c.in_err-path.ensures (d - 1) (omega arith))
    (λ none. opened_row _ d _ _ (omega arith) c.in_ok-open.ensures ∙ stop _ _ (d - 1) _ none))

pub returns-in_err-content : goal.returns-in_err-content
returns-in_err-content c = λ d deep.
    passed_on _ _ c.in_err-content.field-0.0 _ c.from_residual-in_err-content.ensures (misread_by _ (pull content_in (d - 1) c.next_text.new.reader) _ (c.in_err-content.ensures (d - 1) (omega arith))
    (λ none. opened_row _ d _ _ (omega arith) c.in_ok-open.ensures ∙ step _ _ (d - 1) _ _ _ (c.in_ok-path.ensures (d - 1) (omega arith)) ∙ stop _ _ (d - 1) _ none))

pub returns-in_err-end : goal.returns-in_err-end
returns-in_err-end c = λ d deep.
    passed_on _ _ c.in_err-end.field-0.0 _ c.from_residual-in_err-end.ensures (misread_by _ (after_end_array c.next_content.new.reader) _ c.in_err-end.ensures
    (λ none. opened_row _ d _ _ (omega arith) c.in_ok-open.ensures ∙ step _ _ (d - 1) _ _ _ (c.in_ok-path.ensures (d - 1) (omega arith)) ∙ step _ _ (d - 1) _ _ _ (c.in_ok-content.ensures (d - 1) (omega arith)) ∙ not_over _ (d - 1) _ none))

pub returns : goal.returns
returns c = λ d deep.
    opened_row _ d _ _ (omega arith) c.in_ok-open.ensures
    ∙ step _ _ (d - 1) _ _ _ (c.in_ok-path.ensures (d - 1) (omega arith))
    ∙ step _ _ (d - 1) _ _ _ (c.in_ok-content.ensures (d - 1) (omega arith))
    ∙ over _ (d - 1) _ _ c.in_ok-end.ensures
