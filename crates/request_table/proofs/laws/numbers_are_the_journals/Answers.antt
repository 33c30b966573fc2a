use Rattle.request_table.proofs.Sent.{next_number_is, fewer_is, places_are, capacity_is}
use Rattle.request_table.proofs.laws.numbers_are_the_journals.Goals as goal

pub returns-clause-number : goal.returns-clause-number
returns-clause-number c = λ p f j g l a b st within group earlier. next_number_is p f j g l a b st within group earlier

pub returns-clause-fewer : goal.returns-clause-fewer
returns-clause-fewer c = λ p f j l st within few. fewer_is p f j l st within few

pub returns-clause-places : goal.returns-clause-places
returns-clause-places c = λ p f j l st within. places_are p f j l st within

pub returns-clause-capacity : goal.returns-clause-capacity
returns-clause-capacity c = λ p f j g a b st group. capacity_is p f j g a b st group
