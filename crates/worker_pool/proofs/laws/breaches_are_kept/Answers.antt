use Rattle.worker_pool.proofs.Lives.{breaches_kept}
use Rattle.worker_pool.proofs.laws.breaches_are_kept.Goals as goal

pub returns : goal.returns
returns c = λ p seats f j lane l a y s. breaches_kept p seats f j lane l s a y
