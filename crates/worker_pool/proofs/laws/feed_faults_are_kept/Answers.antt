use Rattle.exec_journal.specs.declared.call.Written.TheVariants.{FeedFault}
use Rattle.worker_pool.proofs.Bound.{writes_unbind}
use Rattle.worker_pool.proofs.Lives.{feed_kept}
use Rattle.worker_pool.proofs.laws.feed_faults_are_kept.Goals as goal

pub returns : goal.returns
returns c = λ p seats f j lane l n s stays. feed_kept p seats f j lane l s n (writes_unbind p j lane l n FeedFault stays)
