use Rattle.worker_pool.proofs.Bound.{faults_unbind}
use Rattle.worker_pool.proofs.Kept.{aside_kept}
use Rattle.worker_pool.proofs.laws.faults_are_kept.Goals as goal

pub returns : goal.returns
returns c = λ p seats f j e ls s aside ungranted stays these. aside_kept p seats f j e s aside ls (faults_unbind p j e aside ungranted stays ls these)
