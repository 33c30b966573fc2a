use Rattle.request_table.proofs.Sent.{open_is}
use Rattle.request_table.proofs.laws.places_are_the_journals.Goals as goal

pub returns : goal.returns
returns c = λ p f j l st within. open_is p f j l st within
