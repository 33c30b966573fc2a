use Rattle.worker_pool.proofs.Lives.{starts_kept}
use Rattle.worker_pool.proofs.laws.starts_are_kept.Goals as goal

pub returns : goal.returns
returns c = λ p seats f j lane l s. starts_kept p seats f j lane l s
