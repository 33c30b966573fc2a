use Rattle.placed_rules.proofs.Whole.{kept}
use Rattle.placed_rules.proofs.laws.placed_orders_are_kept.Goals as goal

pub returns : goal.returns
returns c = kept
