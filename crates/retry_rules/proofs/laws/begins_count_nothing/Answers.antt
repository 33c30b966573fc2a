use Rattle.retry_rules.proofs.Counted.{begins_count}
use Rattle.retry_rules.proofs.laws.begins_count_nothing.Goals as goal

pub returns : goal.returns
returns c = λ p f j e t s begins next going none_ends. begins_count p f j e t s begins next going none_ends
