use Rattle.retry_rules.proofs.Counted.{ends_counted}
use Rattle.retry_rules.proofs.laws.ends_are_counted.Goals as goal

pub returns : goal.returns
returns c = λ p f j e ts s h. ends_counted p f j e ts s h
