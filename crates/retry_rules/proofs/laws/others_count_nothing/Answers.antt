use Rattle.retry_rules.proofs.Counted.{others_count}
use Rattle.retry_rules.proofs.laws.others_count_nothing.Goals as goal

pub returns : goal.returns
returns c = λ p f j e s none_begins none_ends. others_count p f j e s none_begins none_ends
