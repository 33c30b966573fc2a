use Rattle.json.specs.Json.{after_end_array}
use Rattle.journal_text.specs.Values.{whole}
use Rattle.std.proofs.Common.{◌-◌, ◌∙◌, arith}
use Rattle.journal_reading.specs.Pulls.{after_name}
use Rattle.journal_reading.proofs.Passing.{misread_by, passed_on}
use Rattle.journal_reading.proofs.Steps.{named_row, not_over, over, unnamed}
use Rattle.journal_reading.proofs.values.word.Goals as goal

pub returns-in_err-name : goal.returns-in_err-name
returns-in_err-name c = λ d deep.
    passed_on _ _ c.in_err-name.field-0.0 _ c.from_residual.ensures (misread_by _ (after_name c.args.reader.now) _ c.in_err-name.ensures
    (λ none. unnamed whole d _ none))

pub returns-in_err-end : goal.returns-in_err-end
returns-in_err-end c = λ d deep.
    passed_on _ _ c.in_err-end.field-0.0 _ c.from_residual-in_err-end.ensures (misread_by _ (after_end_array c.variant.new.reader) _ c.in_err-end.ensures
    (λ none. named_row whole d _ _ _ (omega arith) c.in_ok-name.ensures ∙ not_over _ (d - 1) _ none))

pub returns : goal.returns
returns c = λ d deep. named_row whole d _ _ _ (omega arith) c.in_ok-name.ensures ∙ over _ (d - 1) _ _ c.in_ok-end.ensures
