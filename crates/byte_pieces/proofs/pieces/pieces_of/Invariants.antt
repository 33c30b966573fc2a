use Rattle.std.proofs.Common.{◌≡◌, ◌++◌, length}
use Rattle.std.specs.Prelude.{All}
use Rattle.byte_pieces.specs.Queues.{IsFull, bytes_of}
use Rattle.byte_pieces.proofs.pieces.pieces_of.Given as goal

abbrev pub invariant-loop-rest : goal.invariant-loop-rest
invariant-loop-rest l = (bytes_of l.full.items ++ l.rest ≡ l.fn.bytes) × All IsFull l.full.items

abbrev pub decreases-loop-rest : goal.decreases-loop-rest
decreases-loop-rest l = length l.rest
