use Rattle.ready_order.proofs.Followed.{begun}
use Rattle.ready_order.proofs.laws.begins_are_taken.Goals as goal

pub returns : goal.returns
returns c = λ p states j e t s h. begun p j e t h states s
