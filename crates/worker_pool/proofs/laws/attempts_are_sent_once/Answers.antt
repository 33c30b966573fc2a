use Rattle.worker_pool.proofs.Once.{pending_on, pending_nowhere, sent_to, bound_carrier}
use Rattle.worker_pool.proofs.laws.attempts_are_sent_once.Goals as goal

pub returns-clause-pending : goal.returns-clause-pending
returns-clause-pending c = λ j l i q order h is. pending_on j order l i q h is

pub returns-clause-nowhere : goal.returns-clause-nowhere
returns-clause-nowhere c = λ j l i q order h is. pending_nowhere j order l i q h is

pub returns-clause-sent : goal.returns-clause-sent
returns-clause-sent c = λ j q order begins unended unanswered. sent_to j q order begins unended unanswered

pub returns-clause-carrier : goal.returns-clause-carrier
returns-clause-carrier c = λ p j l t order h. bound_carrier p j l t order h
