use Rattle.journal_text.specs.Values.{count_in}
use Rattle.journal_reading.specs.Pulls.{first_token}
use Rattle.journal_reading.proofs.Passing.{misread_by, passed_on}
use Rattle.journal_reading.proofs.Scalars.{of_token, of_nothing, reads-count}
use Rattle.journal_reading.proofs.values.next_count.Goals as goal

pub returns-in_err-token : goal.returns-in_err-token
returns-in_err-token c = λ d deep.
    passed_on _ _ c.in_err-token.field-0.0 _ c.from_residual.ensures (misread_by _ (first_token c.args.reader.now) _ c.in_err-token.ensures
    (λ none. of_nothing count_in reads-count d _ none))

pub returns : goal.returns
returns c = λ d deep. of_token _ count_in reads-count d _ _ _ _ c.in_ok-token.ensures c.count_in.ensures
