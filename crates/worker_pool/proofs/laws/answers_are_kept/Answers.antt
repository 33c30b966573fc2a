use Rattle.worker_pool.proofs.Freed.{answers_kept}
use Rattle.worker_pool.proofs.laws.answers_are_kept.Goals as goal

pub returns : goal.returns
returns c = λ p seats f j lane l a x t s consumed on. answers_kept p seats f j lane l a x t s consumed on
