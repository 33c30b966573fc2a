use Rattle.worker_pool.proofs.Bound.{ends_unbind}
use Rattle.worker_pool.proofs.Lives.{ends_kept}
use Rattle.worker_pool.proofs.laws.ends_are_kept.Goals as goal

pub returns : goal.returns
returns c = λ p seats f j lane l how s stays carries. ends_kept p seats f j lane l s how (ends_unbind p j lane l how stays carries)
