use Rattle.discipline_laws.proofs.Ordering as ordering
use Rattle.discipline_laws.proofs.laws.orders_hold.Goals as goal

pub returns : goal.returns
returns c = ordering.orders_hold
