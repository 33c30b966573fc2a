use Rattle.std.proofs.Common.{◌∙◌, arith}
use Rattle.journal_text.specs.Reading.{attempt_at}
use Rattle.journal_text.specs.Values.{count_in}
use Rattle.journal_text.specs.Words.{branch_in}
use Rattle.journal_reading.specs.Pulls.{pull}
use Rattle.journal_reading.proofs.Passing.{front_passed_on, misread_by}
use Rattle.journal_reading.proofs.Steps.{front_read, step, stop}
use Rattle.journal_reading.proofs.words.next_attempt.Goals as goal

pub returns-in_err-action : goal.returns-in_err-action
returns-in_err-action c =
    front_passed_on 1 attempt_at _ _ _ c.in_err-action.field-0.0 c.from_residual.ensures (λ d deep. misread_by _ (pull count_in d c.args.reader.now) _ (c.in_err-action.ensures d (omega arith))
    (λ none. stop _ _ d _ none))

pub returns-in_err-branch : goal.returns-in_err-branch
returns-in_err-branch c =
    front_passed_on 1 attempt_at _ _ _ c.in_err-branch.field-0.0 c.from_residual-in_err-branch.ensures (λ d deep. misread_by _ (pull branch_in d c.next_count.new.reader) _ (c.in_err-branch.ensures d (omega arith))
    (λ none. step _ _ d _ _ _ (c.in_ok-action.ensures d (omega arith)) ∙ stop _ _ d _ none))

pub returns-in_err-number : goal.returns-in_err-number
returns-in_err-number c =
    front_passed_on 1 attempt_at _ _ _ c.in_err-number.field-0.0 c.from_residual-in_err-number.ensures (λ d deep. misread_by _ (pull count_in d c.next_branch.new.reader) _ (c.in_err-number.ensures d (omega arith))
    (λ none. step _ _ d _ _ _ (c.in_ok-action.ensures d (omega arith)) ∙ step _ _ d _ _ _ (c.in_ok-branch.ensures d (omega arith)) ∙ stop _ _ d _ none))

pub returns : goal.returns
returns c = λ d deep.
    step _ _ d _ _ _ (c.in_ok-action.ensures d (omega arith))
    ∙ step _ _ d _ _ _ (c.in_ok-branch.ensures d (omega arith))
    ∙ step _ _ d _ _ _ (c.in_ok-number.ensures d (omega arith))
    ∙ front_read _ d _
