use Rattle.std.proofs.Common.{sym, ◌∙◌}
use Rattle.journal_text.proofs.Written.{by_plan, by_row, if_ok, on_ok, plan_is_written}
use Rattle.journal_text.proofs.writing.first_line.Goals as goal

pub returns-then-has_row-clause-text : goal.returns-then-has_row-clause-text
returns-then-has_row-clause-text c =
    let row = sym c.has_row.ensures ∙ c.if-has_row.true in
    if_ok c.placed_line.result _ _ (λ s e. e ∙ sym (by_row c.args.placed.now row)) c.placed_line.ensures.text

pub returns-else-has_row-clause-text : goal.returns-else-has_row-clause-text
returns-else-has_row-clause-text c =
    let no' = sym c.has_row.ensures ∙ c.if-has_row.false in
    if_ok c.plan_line.result _ _ (λ s e. e ∙ sym (by_plan c.args.placed.now no')) c.plan_line.ensures.text

pub returns-else-has_row-clause-again : goal.returns-else-has_row-clause-again
returns-else-has_row-clause-again c =
    let no' = sym c.has_row.ensures ∙ c.if-has_row.false in
    on_ok c.plan_line.result _ _ (λ w. plan_is_written c.args.placed.now no' w) c.plan_line.ensures.again
