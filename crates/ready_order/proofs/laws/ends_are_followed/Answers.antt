use Rattle.ready_order.proofs.Ended.{ends}
use Rattle.ready_order.proofs.laws.ends_are_followed.Goals as goal

pub returns : goal.returns
returns c = λ p states j e ts s h. ends p j e ts h states s
