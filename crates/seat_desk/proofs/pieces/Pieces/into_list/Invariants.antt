use Rattle.std.proofs.Common.{◌≡◌, ◌≤◌, ◌+◌, ◌++◌, length}
use Rattle.std.specs.Vec.{vec_capacity}
use Rattle.seat_desk.specs.Logs.{entries_of}
use Rattle.seat_desk.proofs.pieces.Pieces.into_list.Given as goal

-- The whole begins with the pieces that were moved, and has room for those that are left.
abbrev pub invariant-loop-piece : goal.invariant-loop-piece
invariant-loop-piece g l = record {
  all : l.whole.items ++ entries_of l.rest.items ++ l.last.items ≡ l.fn.self.items;
  fits : length l.whole.items + length (entries_of l.rest.items) + vec_capacity l.last ≤ vec_capacity l.whole;
}

abbrev pub decreases-loop-piece : goal.decreases-loop-piece
decreases-loop-piece g l = length l.rest.items
