use Rattle.worker_pool.proofs.Lives.{kills_kept}
use Rattle.worker_pool.proofs.laws.kills_are_kept.Goals as goal

pub returns : goal.returns
returns c = λ p seats f j lane l s. kills_kept p seats f j lane l s
