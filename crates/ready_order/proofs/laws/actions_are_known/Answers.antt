use Rattle.ready_order.proofs.Followed.{known}
use Rattle.ready_order.proofs.laws.actions_are_known.Goals as goal

pub returns : goal.returns
returns c = λ p states j a s lt. known p states j a s lt
