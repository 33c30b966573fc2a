use Rattle.placed_rules.proofs.Evicting as evicting
use Rattle.placed_rules.proofs.laws.evictions_end_nothing.Goals as goal

pub returns : goal.returns
returns c = record { empty = evicting.empty; unsent = evicting.unsent; ends = evicting.ends_none }
