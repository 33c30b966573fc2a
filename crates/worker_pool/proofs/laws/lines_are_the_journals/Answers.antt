use Rattle.worker_pool.proofs.Answered.{last_is, live_is, free_is, pending_is, capacity_is}
use Rattle.worker_pool.proofs.laws.lines_are_the_journals.Goals as goal

pub returns-clause-count : goal.returns-clause-count
returns-clause-count c = λ p seats f j s. s.count

pub returns-clause-last : goal.returns-clause-last
returns-clause-last c = λ p seats f j w s known. last_is p seats f j s w known

pub returns-clause-live : goal.returns-clause-live
returns-clause-live c = λ p seats f j w s known names. live_is p seats f j s w known names

pub returns-clause-free : goal.returns-clause-free
returns-clause-free c = λ p seats f j l lane t s launched. free_is p seats f j s l lane t launched

pub returns-clause-pending : goal.returns-clause-pending
returns-clause-pending c = λ p seats f j l lane t s launched. pending_is p seats f j s l lane t launched

pub returns-clause-capacity : goal.returns-clause-capacity
returns-clause-capacity c = λ p seats f j l lane t s launched. capacity_is p seats f j s l lane t launched
