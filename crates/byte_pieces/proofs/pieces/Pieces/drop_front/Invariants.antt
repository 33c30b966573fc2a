use Rattle.std.proofs.Common.{◌≡◌, ◌++◌, drop}
use Rattle.byte_pieces.specs.Queues.{AreHeld, bytes_of}
use Rattle.byte_pieces.proofs.pieces.Pieces.drop_front.Given as goal

-- What is held is held as ever, and what is left is the same after each piece.
abbrev pub invariant-loop-self : goal.invariant-loop-self
invariant-loop-self l = AreHeld l.self-inside.full.items l.self-inside.last l.self-inside.total l.self-inside.read
    × (drop l.self-inside.read (bytes_of l.self-inside.full.items ++ l.self-inside.last.items) ≡ drop l.fn.count l.fn.self)

abbrev pub decreases-loop-self : goal.decreases-loop-self
decreases-loop-self l = l.self-inside.read
