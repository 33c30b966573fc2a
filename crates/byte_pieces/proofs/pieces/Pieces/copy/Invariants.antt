use Rattle.std.proofs.Common.{◌≡◌, ◌≤◌, ◌-◌, take, drop}
use Rattle.byte_pieces.proofs.pieces.Pieces.copy.Given as goal

abbrev pub invariant-loop-at : goal.invariant-loop-at
invariant-loop-at l = (l.start ≤ l.at) × (l.at ≤ l.end) × (l.copied.items ≡ take (l.at - l.start) (drop l.start l.self))

abbrev pub decreases-loop-at : goal.decreases-loop-at
decreases-loop-at l = l.end - l.at
