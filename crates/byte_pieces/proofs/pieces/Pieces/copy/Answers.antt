use Rattle.std.proofs.Common.{◌∙◌}
use Rattle.byte_pieces.proofs.Places.{copied_more}
use Rattle.byte_pieces.proofs.pieces.Pieces.copy.Goals as goal

pub loop-at-preserved : goal.loop-at-preserved
loop-at-preserved c = let inv = c.loop-at.invariant in
    let x = copied_more c.args.self.now c.loop-at.copied.items c.part-part.result.now c.args.start c.loop-at.at c.args.end c.min.result inv.0 inv.1 c.requires.1 inv.2 c.part-part.ensures c.min.ensures in
    (x.0, x.1, c.in_ok-extend_from_slice.ensures.items ∙ x.2)
