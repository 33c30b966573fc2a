use Rattle.worker_pool.proofs.Kept.{quiet_kept}
use Rattle.worker_pool.proofs.laws.others_change_nothing.Goals as goal

pub returns : goal.returns
returns c = λ p seats f j e s aside nothing. quiet_kept p seats f j e s aside nothing
