use Rattle.journal_text.specs.Values.{maybe_in}
use Rattle.journal_reading.specs.Pulls.{first_token}
use Rattle.journal_reading.proofs.Passing.{misread_by, passed_on}
use Rattle.journal_reading.proofs.Scalars.{of_token, of_nothing, reads-maybe}
use Rattle.journal_reading.proofs.values.next_maybe.Goals as goal

pub returns-in_err-token : goal.returns-in_err-token
returns-in_err-token c = λ d deep.
    passed_on _ _ c.in_err-token.field-0.0 _ c.from_residual.ensures (misread_by _ (first_token c.args.reader.now) _ c.in_err-token.ensures
    (λ none. of_nothing maybe_in reads-maybe d _ none))

pub returns : goal.returns
returns c = λ d deep. of_token _ maybe_in reads-maybe d _ _ _ _ c.in_ok-token.ensures c.maybe_in.ensures
