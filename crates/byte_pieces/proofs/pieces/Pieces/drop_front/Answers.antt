use Rattle.std.proofs.Common.{◌∙◌, arith}
use Rattle.byte_pieces.proofs.Places.{next_held}
use Rattle.byte_pieces.proofs.pieces.Pieces.drop_front.Goals as goal

pub loop-self-preserved : goal.loop-self-preserved
loop-self-preserved c = let s = c.loop-self.self-inside in let inv = c.loop-self.invariant in let past = c.loop-self-test.true in
    let x = next_held s.full.items c.pop_front.new.self.items c.in-Some.field-0 s.last s.total s.read c.in-Some.ensures.items inv.0 (omega arith) in
    (x.0, x.1 ∙ inv.1)
