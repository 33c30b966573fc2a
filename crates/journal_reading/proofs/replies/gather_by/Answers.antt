use Rattle.json.specs.Json.{after_end_array}
use Rattle.std.proofs.Common.{◌≡◌, Some, ◌∙◌, arith}
use Rattle.std.proofs.lemmas.Int.{to_z-of_z}
use Rattle.exec_journal.specs.declared.reply.Reply.TheVariants as reply
use Rattle.journal_text.specs.Reading.{gather_by}
use Rattle.journal_text.specs.Reading.{attempt_at}
use Rattle.journal_text.specs.Values.{count_in, flag_in, signed_in}
use Rattle.journal_reading.specs.Pulls.{pull, pull_row}
use Rattle.journal_reading.proofs.Passing.{front_misread, misread_by, passed_on}
use Rattle.journal_reading.proofs.Steps.{front_step, front_stop, not_over, over, step, stop}
use Rattle.journal_reading.proofs.replies.gather_by.Goals as goal

pub returns-in_err-line : goal.returns-in_err-line
returns-in_err-line c = λ d deep.
    passed_on _ _ c.in_err-line.field-0.0 _ c.from_residual.ensures (misread_by _ (pull count_in d c.args.reader.now) _ (c.in_err-line.ensures d (omega arith))
    (λ none. stop _ _ d _ none))

pub returns-in_err-number : goal.returns-in_err-number
returns-in_err-number c = λ d deep.
    passed_on _ _ c.in_err-number.field-0.0 _ c.from_residual-in_err-number.ensures (misread_by _ (pull signed_in d c.next_count.new.reader) _ (c.in_err-number.ensures d (omega arith))
    (λ none. step _ _ d _ _ _ (c.in_ok-line.ensures d (omega arith)) ∙ stop _ _ d _ none))

pub returns-in_err-of : goal.returns-in_err-of
returns-in_err-of c = λ d deep.
    passed_on _ _ c.in_err-of.field-0.0 _ c.from_residual-in_err-of.ensures (misread_by _ (pull_row attempt_at d c.next_signed.new.reader) _ (front_misread 1 attempt_at _ c.next_signed.new.reader _ d c.in_err-of.ensures (omega arith))
    (λ none. step _ _ d _ _ _ (c.in_ok-line.ensures d (omega arith)) ∙ step _ _ d _ _ _ (c.in_ok-number.ensures d (omega arith)) ∙ front_stop attempt_at _ d _ none))

pub returns-in_err-exit : goal.returns-in_err-exit
returns-in_err-exit c = λ d deep.
    passed_on _ _ c.in_err-exit.field-0.0 _ c.from_residual-in_err-exit.ensures (misread_by _ (pull signed_in d c.next_attempt.new.reader) _ (c.in_err-exit.ensures d (omega arith))
    (λ none. step _ _ d _ _ _ (c.in_ok-line.ensures d (omega arith)) ∙ step _ _ d _ _ _ (c.in_ok-number.ensures d (omega arith)) ∙ front_step attempt_at _ d _ _ _ (c.in_ok-of.ensures d (omega arith)) ∙ stop _ _ d _ none))

pub returns-in_err-refused : goal.returns-in_err-refused
returns-in_err-refused c = λ d deep.
    passed_on _ _ c.in_err-refused.field-0.0 _ c.from_residual-in_err-refused.ensures (misread_by _ (pull flag_in d c.next_signed-2.new.reader) _ (c.in_err-refused.ensures d (omega arith))
    (λ none. step _ _ d _ _ _ (c.in_ok-line.ensures d (omega arith)) ∙ step _ _ d _ _ _ (c.in_ok-number.ensures d (omega arith)) ∙ front_step attempt_at _ d _ _ _ (c.in_ok-of.ensures d (omega arith)) ∙ step _ _ d _ _ _ (c.in_ok-exit.ensures d (omega arith)) ∙ stop _ _ d _ none))

pub returns-in_err-end : goal.returns-in_err-end
returns-in_err-end c = λ d deep.
    passed_on _ _ c.in_err-end.field-0.0 _ c.from_residual-in_err-end.ensures (misread_by _ (after_end_array c.next_flag.new.reader) _ c.in_err-end.ensures
    (λ none. step _ _ d _ _ _ (c.in_ok-line.ensures d (omega arith)) ∙ step _ _ d _ _ _ (c.in_ok-number.ensures d (omega arith)) ∙ front_step attempt_at _ d _ _ _ (c.in_ok-of.ensures d (omega arith)) ∙ step _ _ d _ _ _ (c.in_ok-exit.ensures d (omega arith)) ∙ step _ _ d _ _ _ (c.in_ok-refused.ensures d (omega arith)) ∙ not_over _ d _ none))

pub returns : goal.returns
returns c = λ d deep.
    let h : pull_row gather_by d c.args.reader.now ≡ Some (reply.Gather c.in_ok-line.line c.in_ok-number.number c.in_ok-of.of.action c.in_ok-of.of.branch c.in_ok-of.of.number c.in_ok-exit.exit c.in_ok-refused.refused, c.end.new.reader) =
    step _ _ d _ _ _ (c.in_ok-line.ensures d (omega arith))
    ∙ step _ _ d _ _ _ (c.in_ok-number.ensures d (omega arith))
    ∙ front_step attempt_at _ d _ _ _ (c.in_ok-of.ensures d (omega arith))
    ∙ step _ _ d _ _ _ (c.in_ok-exit.ensures d (omega arith))
    ∙ step _ _ d _ _ _ (c.in_ok-refused.ensures d (omega arith))
    ∙ over _ d _ _ c.in_ok-end.ensures in
    grind (arith, to_z-of_z, h)
