use Rattle.json.specs.Json.{after_end_array}
use Rattle.std.proofs.Common.{◌≡◌, Some, ◌∙◌, arith}
use Rattle.std.proofs.lemmas.Int.{to_z-of_z}
use Rattle.exec_journal.specs.declared.call.Call.TheVariants as call
use Rattle.journal_text.specs.Reading.{wrote_by}
use Rattle.journal_text.specs.Values.{count_in, signed_in}
use Rattle.journal_text.specs.Words.{written_in}
use Rattle.journal_reading.specs.Pulls.{pull, pull_row}
use Rattle.journal_reading.proofs.Passing.{misread_by, passed_on}
use Rattle.journal_reading.proofs.Steps.{not_over, over, step, stop}
use Rattle.journal_reading.proofs.calls.wrote_by.Goals as goal

pub returns-in_err-line : goal.returns-in_err-line
returns-in_err-line c = λ d deep.
    passed_on _ _ c.in_err-line.field-0.0 _ c.from_residual.ensures (misread_by _ (pull count_in d c.args.reader.now) _ (c.in_err-line.ensures d (omega arith))
    (λ none. stop _ _ d _ none))

pub returns-in_err-number : goal.returns-in_err-number
returns-in_err-number c = λ d deep.
    passed_on _ _ c.in_err-number.field-0.0 _ c.from_residual-in_err-number.ensures (misread_by _ (pull signed_in d c.next_count.new.reader) _ (c.in_err-number.ensures d (omega arith))
    (λ none. step _ _ d _ _ _ (c.in_ok-line.ensures d (omega arith)) ∙ stop _ _ d _ none))

pub returns-in_err-how : goal.returns-in_err-how
returns-in_err-how c = λ d deep.
    passed_on _ _ c.in_err-how.field-0.0 _ c.from_residual-in_err-how.ensures (misread_by _ (pull written_in d c.next_signed.new.reader) _ (c.in_err-how.ensures d (omega arith))
    (λ none. step _ _ d _ _ _ (c.in_ok-line.ensures d (omega arith)) ∙ step _ _ d _ _ _ (c.in_ok-number.ensures d (omega arith)) ∙ stop _ _ d _ none))

pub returns-in_err-end : goal.returns-in_err-end
returns-in_err-end c = λ d deep.
    passed_on _ _ c.in_err-end.field-0.0 _ c.from_residual-in_err-end.ensures (misread_by _ (after_end_array c.next_written.new.reader) _ c.in_err-end.ensures
    (λ none. step _ _ d _ _ _ (c.in_ok-line.ensures d (omega arith)) ∙ step _ _ d _ _ _ (c.in_ok-number.ensures d (omega arith)) ∙ step _ _ d _ _ _ (c.in_ok-how.ensures d (omega arith)) ∙ not_over _ d _ none))

pub returns : goal.returns
returns c = λ d deep.
    let h : pull_row wrote_by d c.args.reader.now ≡ Some (call.Wrote c.in_ok-line.line c.in_ok-number.number c.in_ok-how.how, c.end.new.reader) =
    step _ _ d _ _ _ (c.in_ok-line.ensures d (omega arith))
    ∙ step _ _ d _ _ _ (c.in_ok-number.ensures d (omega arith))
    ∙ step _ _ d _ _ _ (c.in_ok-how.ensures d (omega arith))
    ∙ over _ d _ _ c.in_ok-end.ensures in
    grind (arith, to_z-of_z, h)
