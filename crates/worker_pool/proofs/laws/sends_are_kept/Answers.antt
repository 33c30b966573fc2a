use Rattle.worker_pool.proofs.Sent.{bound_sends_kept, sends_kept}
use Rattle.worker_pool.proofs.laws.sends_are_kept.Goals as goal

pub returns-clause-bound : goal.returns-clause-bound
returns-clause-bound c = λ p seats f j lane l n t s to was. bound_sends_kept p seats f j lane l n t s to was

pub returns-clause-other : goal.returns-clause-other
returns-clause-other c = λ p seats f j lane l n t s to none. sends_kept p seats f j lane l n t s to none
