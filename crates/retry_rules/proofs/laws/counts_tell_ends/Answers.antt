use Rattle.retry_rules.proofs.Told.{count_says}
use Rattle.retry_rules.proofs.laws.counts_tell_ends.Goals as goal

pub returns : goal.returns
returns c = λ p f j t st order unbegun within least. count_says p j order unbegun f t st within least
