use Rattle.json.specs.Json.{after_end_array}
use Rattle.std.proofs.Common.{◌≡◌, Some, ◌∙◌, arith}
use Rattle.std.proofs.lemmas.Int.{to_z-of_z}
use Rattle.exec_journal.specs.declared.call.Found.TheVariants as found
use Rattle.journal_text.specs.Reading.{exit_by}
use Rattle.journal_text.specs.Values.{signed_in}
use Rattle.journal_reading.specs.Pulls.{pull, pull_row}
use Rattle.journal_reading.proofs.Passing.{misread_by, passed_on}
use Rattle.journal_reading.proofs.Steps.{not_over, over, step, stop}
use Rattle.journal_reading.proofs.calls.exit_by.Goals as goal

pub returns-in_err-exit : goal.returns-in_err-exit
returns-in_err-exit c = λ d deep.
    passed_on _ _ c.in_err-exit.field-0.0 _ c.from_residual.ensures (misread_by _ (pull signed_in d c.args.reader.now) _ (c.in_err-exit.ensures d (omega arith))
    (λ none. stop _ _ d _ none))

pub returns-in_err-end : goal.returns-in_err-end
returns-in_err-end c = λ d deep.
    passed_on _ _ c.in_err-end.field-0.0 _ c.from_residual-in_err-end.ensures (misread_by _ (after_end_array c.next_signed.new.reader) _ c.in_err-end.ensures
    (λ none. step _ _ d _ _ _ (c.in_ok-exit.ensures d (omega arith)) ∙ not_over _ d _ none))

pub returns : goal.returns
returns c = λ d deep.
    let h : pull_row exit_by d c.args.reader.now ≡ Some (found.Exit c.in_ok-exit.exit, c.end.new.reader) =
    step _ _ d _ _ _ (c.in_ok-exit.ensures d (omega arith))
    ∙ over _ d _ _ c.in_ok-end.ensures in
    grind (arith, to_z-of_z, h)
