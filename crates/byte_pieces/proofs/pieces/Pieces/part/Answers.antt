use Rattle.std.proofs.Common.{◌++◌, arith}
use Rattle.byte_pieces.specs.Queues.{bytes_of}
use Rattle.byte_pieces.proofs.Places.{place_within}
use Rattle.byte_pieces.proofs.pieces.Pieces.part.Goals as goal

pub overflow_add-place : goal.overflow_add-place
overflow_add-place c = let h = c.self.invariant in let small = h.numbered in
    omega (arith, place_within (bytes_of c.self.inside.full.items ++ c.self.inside.last.items) c.args.self.now c.self.inside.total c.self.inside.read c.args.at c.self.view_is h.counted h.begun c.requires)
