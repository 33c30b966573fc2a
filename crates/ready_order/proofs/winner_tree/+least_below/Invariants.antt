use Rattle.std.proofs.Common.{◌*◌, ◌-◌}
use Rattle.ready_order.proofs.winner_tree.+least_below.Given as goal

abbrev pub decreases-least_below : goal.decreases-least_below
decreases-least_below g l = 2 * l.places - l.node
