use Rattle.std.proofs.Common.{◌≡◌, ◌*◌, length}
use Rattle.desk_machines.specs.Ends.{NumberedFrom}
use Rattle.desk_machines.proofs.exchanging.lanes_of.Given as goal

abbrev pub invariant-loop-pair : goal.invariant-loop-pair
invariant-loop-pair l = NumberedFrom l.count 0 l.lanes.items × (length l.lanes.items ≡ 2 * l.pair)
