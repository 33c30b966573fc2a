use Rattle.ready_order.proofs.Queued.{earliest_is}
use Rattle.ready_order.proofs.Earliest.{search_is}
use Rattle.ready_order.proofs.AllSettled.{over_is}
use Rattle.ready_order.specs.Queue.{earliest_in}
use Rattle.ready_order.proofs.laws.answers_are_the_journals.Goals as goal

pub returns-clause-earliest : goal.returns-clause-earliest
returns-clause-earliest c = λ p states j g answer s h. earliest_is p states j g answer s h

pub returns-clause-search : goal.returns-clause-search
returns-clause-search c = λ p states j g s. earliest_is p states j g (earliest_in states g) s
    (search_is states g)

pub returns-clause-settled : goal.returns-clause-settled
returns-clause-settled c = λ p states j s sound. over_is p states j s sound
