use Rattle.cancel_rules.proofs.Followed.{cancel_is, count_is}
use Rattle.cancel_rules.proofs.laws.orders_are_the_journals.Goals as goal

pub returns-clause-order : goal.returns-clause-order
returns-clause-order c = λ p f j l st within wish. cancel_is p f j l st within wish

pub returns-clause-places : goal.returns-clause-places
returns-clause-places c = λ p f j l st within. count_is p f j l st within
