use Rattle.ready_order.proofs.Among.{one_group}
use Rattle.ready_order.proofs.laws.one_group_has_its_earliest.Goals as goal

pub returns : goal.returns
returns c = one_group
