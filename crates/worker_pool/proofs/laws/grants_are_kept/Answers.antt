use Rattle.std.proofs.Common.{refl}
use Rattle.worker_pool.proofs.Bound.{grant_entry, grants_unbind}
use Rattle.worker_pool.proofs.Kept.{aside_kept}
use Rattle.worker_pool.proofs.laws.grants_are_kept.Goals as goal

pub returns : goal.returns
returns c = λ p seats f j lane a n b found ls s stays these. aside_kept p seats f j (grant_entry p j lane a n b found) s refl ls (grants_unbind p j lane a n b found ls stays these)
