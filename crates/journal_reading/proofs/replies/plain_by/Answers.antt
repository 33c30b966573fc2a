use Rattle.std.proofs.Common.{ap, ◌∙◌}
use Rattle.json.specs.Json.{after_end_array}
use Rattle.journal_text.specs.Options.{◌>>=◌}
use Rattle.journal_text.specs.Values.{whole}
use Rattle.journal_reading.specs.Pulls.{pull_row}
use Rattle.journal_reading.proofs.Passing.{misread_by, passed_on}
use Rattle.journal_reading.proofs.Steps.{not_over, over}
use Rattle.journal_reading.proofs.replies.plain_by.Goals as goal

pub returns-in_err-end : goal.returns-in_err-end
returns-in_err-end c = λ d deep.
    passed_on _ _ c.in_err-end.field-0.0 _ c.from_residual-in_err-end.ensures (misread_by _ (after_end_array c.args.reader.now) _ c.in_err-end.ensures
    (λ none. ap (λ o. pull_row (λ row. o >>= λ r. whole r row) d c.args.reader.now) c.in_ok-reply.ensures ∙ not_over _ d _ none))

pub returns : goal.returns
returns c = λ d deep.
    ap (λ o. pull_row (λ row. o >>= λ r. whole r row) d c.args.reader.now) c.in_ok-reply.ensures ∙ over _ d _ _ c.in_ok-end.ensures
