use Rattle.std.proofs.Common.{◌≡◌, ◌<◌, ◌*◌, ◌/◌, drop}
use Rattle.ready_order.specs.Matches.{IsPlayedBut}
use Rattle.ready_order.proofs.winner_tree.play_above.Given as goal

abbrev pub invariant-loop-node : goal.invariant-loop-node
invariant-loop-node l = record {
  low : 0 < l.node;
  high : l.node < 2 * l.places;
  others : IsPlayedBut l.nodes l.places (l.node / 2);
  numbers : drop l.places l.nodes ≡ drop l.places l.initial.nodes;
}

abbrev pub decreases-loop-node : goal.decreases-loop-node
decreases-loop-node l = l.node
