use Rattle.ready_order.proofs.Followed.{others}
use Rattle.ready_order.proofs.laws.others_change_nothing.Goals as goal

pub returns : goal.returns
returns c = λ p states j k s h. others p states j k s h
