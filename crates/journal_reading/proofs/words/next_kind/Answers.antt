use Rattle.journal_text.specs.Values.{word_in}
use Rattle.journal_text.specs.Words.{kind_named}
use Rattle.journal_reading.specs.Pulls.{pull}
use Rattle.journal_reading.proofs.Passing.{misread_by, passed_on}
use Rattle.journal_reading.proofs.Steps.{not_read, read_on}
use Rattle.journal_reading.proofs.words.next_kind.Goals as goal

pub returns-in_err-name : goal.returns-in_err-name
returns-in_err-name c = λ d deep.
    passed_on _ _ c.in_err-name.field-0.0 _ c.from_residual.ensures (misread_by _ (pull word_in d c.args.reader.now) _ (c.in_err-name.ensures d deep)
    (λ none. not_read word_in kind_named d _ none))

pub returns : goal.returns
returns c = λ d deep. read_on _ word_in kind_named d _ _ _ _ (c.in_ok-name.ensures d deep) c.kind_named.ensures
