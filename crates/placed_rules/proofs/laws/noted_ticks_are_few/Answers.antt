use Rattle.placed_rules.proofs.Bounded.{few}
use Rattle.placed_rules.proofs.laws.noted_ticks_are_few.Goals as goal

pub returns : goal.returns
returns c = few
