use Rattle.std.proofs.Common.{◌≡◌, ◌≤◌, ◌+◌, ◌++◌, length}
use Rattle.std.specs.VecDeque.{deque_len, deque_capacity}
use Rattle.byte_pieces.specs.Queues.{filled}
use Rattle.byte_pieces.proofs.pieces.put_behind.Given as goal

abbrev pub invariant-loop-piece : goal.invariant-loop-piece
invariant-loop-piece l = (l.full.items ++ l.rest.items ≡ l.fn.full.items ++ filled l.fn.before ++ l.fn.pieces.items) × (deque_len l.full + length l.rest.items ≤ deque_capacity l.full)

abbrev pub decreases-loop-piece : goal.decreases-loop-piece
decreases-loop-piece l = length l.rest.items
