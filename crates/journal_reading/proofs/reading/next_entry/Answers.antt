use Rattle.json.specs.Json.{after_end_array}
use Rattle.std.proofs.Common.{◌-◌, ◌∙◌, arith}
use Rattle.journal_text.specs.Reading.{call_in, reply_in}
use Rattle.journal_text.specs.Values.{count_in}
use Rattle.journal_reading.specs.Pulls.{after_begin_array, pull}
use Rattle.journal_reading.proofs.Passing.{misread_by, passed_on}
use Rattle.journal_reading.proofs.Steps.{not_over, opened_row, over, step, stop, unopened}
use Rattle.journal_reading.proofs.reading.next_entry.Goals as goal

pub returns-in_err-open : goal.returns-in_err-open
returns-in_err-open c = λ d deep.
    passed_on _ _ c.in_err-open.field-0.0 _ c.from_residual.ensures (misread_by _ (after_begin_array c.args.reader.now) _ c.in_err-open.ensures
    (λ none. unopened _ d _ none))

pub returns-in_err-lane : goal.returns-in_err-lane
returns-in_err-lane c = λ d deep.
    passed_on _ _ c.in_err-lane.field-0.0 _ c.from_residual-in_err-lane.ensures (misread_by _ (pull count_in (d - 1) c.open.new.reader) _ (c.in_err-lane.ensures (d - 1) (omega arith))
    (λ none. opened_row _ d _ _ (omega arith) c.in_ok-open.ensures ∙ stop _ _ (d - 1) _ none))

pub returns-in_err-call : goal.returns-in_err-call
returns-in_err-call c = λ d deep.
    passed_on _ _ c.in_err-call.field-0.0 _ c.from_residual-in_err-call.ensures (misread_by _ (pull call_in (d - 1) c.next_count.new.reader) _ (c.in_err-call.ensures (d - 1) (omega arith))
    (λ none. opened_row _ d _ _ (omega arith) c.in_ok-open.ensures ∙ step _ _ (d - 1) _ _ _ (c.in_ok-lane.ensures (d - 1) (omega arith)) ∙ stop _ _ (d - 1) _ none))

pub returns-in_err-reply : goal.returns-in_err-reply
returns-in_err-reply c = λ d deep.
    passed_on _ _ c.in_err-reply.field-0.0 _ c.from_residual-in_err-reply.ensures (misread_by _ (pull reply_in (d - 1) c.next_call.new.reader) _ (c.in_err-reply.ensures (d - 1) (omega arith))
    (λ none. opened_row _ d _ _ (omega arith) c.in_ok-open.ensures ∙ step _ _ (d - 1) _ _ _ (c.in_ok-lane.ensures (d - 1) (omega arith)) ∙ step _ _ (d - 1) _ _ _ (c.in_ok-call.ensures (d - 1) (omega arith)) ∙ stop _ _ (d - 1) _ none))

pub returns-in_err-end : goal.returns-in_err-end
returns-in_err-end c = λ d deep.
    passed_on _ _ c.in_err-end.field-0.0 _ c.from_residual-in_err-end.ensures (misread_by _ (after_end_array c.next_reply.new.reader) _ c.in_err-end.ensures
    (λ none. opened_row _ d _ _ (omega arith) c.in_ok-open.ensures ∙ step _ _ (d - 1) _ _ _ (c.in_ok-lane.ensures (d - 1) (omega arith)) ∙ step _ _ (d - 1) _ _ _ (c.in_ok-call.ensures (d - 1) (omega arith)) ∙ step _ _ (d - 1) _ _ _ (c.in_ok-reply.ensures (d - 1) (omega arith)) ∙ not_over _ (d - 1) _ none))

pub returns : goal.returns
returns c = λ d deep.
    opened_row _ d _ _ (omega arith) c.in_ok-open.ensures
    ∙ step _ _ (d - 1) _ _ _ (c.in_ok-lane.ensures (d - 1) (omega arith))
    ∙ step _ _ (d - 1) _ _ _ (c.in_ok-call.ensures (d - 1) (omega arith))
    ∙ step _ _ (d - 1) _ _ _ (c.in_ok-reply.ensures (d - 1) (omega arith))
    ∙ over _ (d - 1) _ _ c.in_ok-end.ensures
