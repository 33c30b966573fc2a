use Rattle.std.proofs.Common.{length}
use Rattle.spawn_strategies.proofs.listing.+no_two_alike.Given as goal

abbrev pub decreases-no_two_alike : goal.decreases-no_two_alike
decreases-no_two_alike l = length l.texts.now
