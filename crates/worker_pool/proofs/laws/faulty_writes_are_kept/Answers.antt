use Rattle.worker_pool.proofs.Bound.{writes_unbind}
use Rattle.worker_pool.proofs.Freed.{faults_kept, gone_faults_kept, late_faults_kept}
use Rattle.worker_pool.proofs.laws.faulty_writes_are_kept.Goals as goal

pub returns-clause-pending : goal.returns-clause-pending
returns-clause-pending c = λ p seats f j lane k n how q l s faulty first stays unanswered on. faults_kept p seats f j lane k n how q s faulty first.order (writes_unbind p j lane k n how stays) unanswered first.first l on

pub returns-clause-gone : goal.returns-clause-gone
returns-clause-gone c = λ p seats f j lane k n how q s faulty first stays unanswered nowhere. gone_faults_kept p seats f j lane k n how q s faulty first.order (writes_unbind p j lane k n how stays) unanswered first.first nowhere

pub returns-clause-answered : goal.returns-clause-answered
returns-clause-answered c = λ p seats f j lane k n how q s faulty first stays is_answered. late_faults_kept p seats f j lane k n how q s faulty first.order (writes_unbind p j lane k n how stays) is_answered
