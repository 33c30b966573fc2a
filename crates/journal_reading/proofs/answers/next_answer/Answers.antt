use Rattle.json.specs.Json.{after_end_array}
use Rattle.std.proofs.Common.{◌≡◌, Some, ◌-◌, ◌∙◌, arith}
use Rattle.std.proofs.lemmas.Int.{to_z-of_z}
use Rattle.exec_journal.specs.declared.call.Answer.{Answer}
use Rattle.journal_text.specs.Reading.{answer_in}
use Rattle.journal_text.specs.Reading.{file_in}
use Rattle.journal_text.specs.Values.{flag_in, list_in, signed_in, text_in}
use Rattle.journal_reading.specs.Pulls.{after_begin_array, pull}
use Rattle.journal_reading.proofs.Passing.{misread_by, passed_on}
use Rattle.journal_reading.proofs.Steps.{not_over, opened_row, over, step, stop, unopened}
use Rattle.journal_reading.proofs.answers.next_answer.Goals as goal

pub returns-in_err-open : goal.returns-in_err-open
returns-in_err-open c = λ d deep.
    passed_on _ _ c.in_err-open.field-0.0 _ c.from_residual.ensures (misread_by _ (after_begin_array c.args.reader.now) _ c.in_err-open.ensures
    (λ none. unopened _ d _ none))

pub returns-in_err-number : goal.returns-in_err-number
returns-in_err-number c = λ d deep.
    passed_on _ _ c.in_err-number.field-0.0 _ c.from_residual-in_err-number.ensures (misread_by _ (pull signed_in (d - 1) c.open.new.reader) _ (c.in_err-number.ensures (d - 1) (omega arith))
    (λ none. opened_row _ d _ _ (omega arith) c.in_ok-open.ensures ∙ stop _ _ (d - 1) _ none))

pub returns-in_err-exit : goal.returns-in_err-exit
returns-in_err-exit c = λ d deep.
    passed_on _ _ c.in_err-exit.field-0.0 _ c.from_residual-in_err-exit.ensures (misread_by _ (pull signed_in (d - 1) c.next_signed.new.reader) _ (c.in_err-exit.ensures (d - 1) (omega arith))
    (λ none. opened_row _ d _ _ (omega arith) c.in_ok-open.ensures ∙ step _ _ (d - 1) _ _ _ (c.in_ok-number.ensures (d - 1) (omega arith)) ∙ stop _ _ (d - 1) _ none))

pub returns-in_err-cancelled : goal.returns-in_err-cancelled
returns-in_err-cancelled c = λ d deep.
    passed_on _ _ c.in_err-cancelled.field-0.0 _ c.from_residual-in_err-cancelled.ensures (misread_by _ (pull flag_in (d - 1) c.next_signed-2.new.reader) _ (c.in_err-cancelled.ensures (d - 1) (omega arith))
    (λ none. opened_row _ d _ _ (omega arith) c.in_ok-open.ensures ∙ step _ _ (d - 1) _ _ _ (c.in_ok-number.ensures (d - 1) (omega arith)) ∙ step _ _ (d - 1) _ _ _ (c.in_ok-exit.ensures (d - 1) (omega arith)) ∙ stop _ _ (d - 1) _ none))

pub returns-in_err-text : goal.returns-in_err-text
returns-in_err-text c = λ d deep.
    passed_on _ _ c.in_err-text.field-0.0 _ c.from_residual-in_err-text.ensures (misread_by _ (pull text_in (d - 1) c.next_flag.new.reader) _ (c.in_err-text.ensures (d - 1) (omega arith))
    (λ none. opened_row _ d _ _ (omega arith) c.in_ok-open.ensures ∙ step _ _ (d - 1) _ _ _ (c.in_ok-number.ensures (d - 1) (omega arith)) ∙ step _ _ (d - 1) _ _ _ (c.in_ok-exit.ensures (d - 1) (omega arith)) ∙ step _ _ (d - 1) _ _ _ (c.in_ok-cancelled.ensures (d - 1) (omega arith)) ∙ stop _ _ (d - 1) _ none))

pub returns-in_err-refusal : goal.returns-in_err-refusal
returns-in_err-refusal c = λ d deep.
    passed_on _ _ c.in_err-refusal.field-0.0 _ c.from_residual-in_err-refusal.ensures (misread_by _ (pull text_in (d - 1) c.next_text.new.reader) _ (c.in_err-refusal.ensures (d - 1) (omega arith))
    (λ none. opened_row _ d _ _ (omega arith) c.in_ok-open.ensures ∙ step _ _ (d - 1) _ _ _ (c.in_ok-number.ensures (d - 1) (omega arith)) ∙ step _ _ (d - 1) _ _ _ (c.in_ok-exit.ensures (d - 1) (omega arith)) ∙ step _ _ (d - 1) _ _ _ (c.in_ok-cancelled.ensures (d - 1) (omega arith)) ∙ step _ _ (d - 1) _ _ _ (c.in_ok-text.ensures (d - 1) (omega arith)) ∙ stop _ _ (d - 1) _ none))

pub returns-in_err-files : goal.returns-in_err-files
returns-in_err-files c = λ d deep.
    passed_on _ _ c.in_err-files.field-0.0 _ c.from_residual-in_err-files.ensures (misread_by _ (pull (list_in file_in) (d - 1) c.next_text-2.new.reader) _ (c.in_err-files.ensures (d - 1) (omega arith))
    (λ none. opened_row _ d _ _ (omega arith) c.in_ok-open.ensures ∙ step _ _ (d - 1) _ _ _ (c.in_ok-number.ensures (d - 1) (omega arith)) ∙ step _ _ (d - 1) _ _ _ (c.in_ok-exit.ensures (d - 1) (omega arith)) ∙ step _ _ (d - 1) _ _ _ (c.in_ok-cancelled.ensures (d - 1) (omega arith)) ∙ step _ _ (d - 1) _ _ _ (c.in_ok-text.ensures (d - 1) (omega arith)) ∙ step _ _ (d - 1) _ _ _ (c.in_ok-refusal.ensures (d - 1) (omega arith)) ∙ stop _ _ (d - 1) _ none))

pub returns-in_err-version : goal.returns-in_err-version
returns-in_err-version c = λ d deep.
    passed_on _ _ c.in_err-version.field-0.0 _ c.from_residual-in_err-version.ensures (misread_by _ (pull signed_in (d - 1) c.next_files.new.reader) _ (c.in_err-version.ensures (d - 1) (omega arith))
    (λ none. opened_row _ d _ _ (omega arith) c.in_ok-open.ensures ∙ step _ _ (d - 1) _ _ _ (c.in_ok-number.ensures (d - 1) (omega arith)) ∙ step _ _ (d - 1) _ _ _ (c.in_ok-exit.ensures (d - 1) (omega arith)) ∙ step _ _ (d - 1) _ _ _ (c.in_ok-cancelled.ensures (d - 1) (omega arith)) ∙ step _ _ (d - 1) _ _ _ (c.in_ok-text.ensures (d - 1) (omega arith)) ∙ step _ _ (d - 1) _ _ _ (c.in_ok-refusal.ensures (d - 1) (omega arith)) ∙ step _ _ (d - 1) _ _ _ (c.in_ok-files.ensures (d - 1) (omega arith)) ∙ stop _ _ (d - 1) _ none))

pub returns-in_err-end : goal.returns-in_err-end
returns-in_err-end c = λ d deep.
    passed_on _ _ c.in_err-end.field-0.0 _ c.from_residual-in_err-end.ensures (misread_by _ (after_end_array c.next_signed-3.new.reader) _ c.in_err-end.ensures
    (λ none. opened_row _ d _ _ (omega arith) c.in_ok-open.ensures ∙ step _ _ (d - 1) _ _ _ (c.in_ok-number.ensures (d - 1) (omega arith)) ∙ step _ _ (d - 1) _ _ _ (c.in_ok-exit.ensures (d - 1) (omega arith)) ∙ step _ _ (d - 1) _ _ _ (c.in_ok-cancelled.ensures (d - 1) (omega arith)) ∙ step _ _ (d - 1) _ _ _ (c.in_ok-text.ensures (d - 1) (omega arith)) ∙ step _ _ (d - 1) _ _ _ (c.in_ok-refusal.ensures (d - 1) (omega arith)) ∙ step _ _ (d - 1) _ _ _ (c.in_ok-files.ensures (d - 1) (omega arith)) ∙ step _ _ (d - 1) _ _ _ (c.in_ok-version.ensures (d - 1) (omega arith)) ∙ not_over _ (d - 1) _ none))

pub returns : goal.returns
returns c = λ d deep.
    let x : Answer = record { number = c.in_ok-number.number; exit = c.in_ok-exit.exit; cancelled = c.in_ok-cancelled.cancelled; text = c.in_ok-text.text; refusal = c.in_ok-refusal.refusal; files = c.in_ok-files.files; version = c.in_ok-version.version } in
    let h : pull answer_in d c.args.reader.now ≡ Some (x, c.end.new.reader) =
    opened_row _ d _ _ (omega arith) c.in_ok-open.ensures
    ∙ step _ _ (d - 1) _ _ _ (c.in_ok-number.ensures (d - 1) (omega arith))
    ∙ step _ _ (d - 1) _ _ _ (c.in_ok-exit.ensures (d - 1) (omega arith))
    ∙ step _ _ (d - 1) _ _ _ (c.in_ok-cancelled.ensures (d - 1) (omega arith))
    ∙ step _ _ (d - 1) _ _ _ (c.in_ok-text.ensures (d - 1) (omega arith))
    ∙ step _ _ (d - 1) _ _ _ (c.in_ok-refusal.ensures (d - 1) (omega arith))
    ∙ step _ _ (d - 1) _ _ _ (c.in_ok-files.ensures (d - 1) (omega arith))
    ∙ step _ _ (d - 1) _ _ _ (c.in_ok-version.ensures (d - 1) (omega arith))
    ∙ over _ (d - 1) _ _ c.in_ok-end.ensures in
    grind (arith, to_z-of_z, h)
