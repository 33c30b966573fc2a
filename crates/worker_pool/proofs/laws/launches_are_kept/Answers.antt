use Rattle.worker_pool.proofs.Launched.{launches_kept}
use Rattle.worker_pool.proofs.laws.launches_are_kept.Goals as goal

pub returns : goal.returns
returns c = λ p seats f j lane t s free new. launches_kept p seats f j lane t s free new
