use Rattle.std.proofs.Common.{refl, ◌∙◌, arith}
use Rattle.byte_pieces.proofs.Places.{last_within, part_in_full, part_in_last}
use Rattle.byte_pieces.proofs.pieces.part_of.Goals as goal

pub slice_bounds-result-count-in-None : goal.slice_bounds-result-count-in-None
slice_bounds-result-count-in-None c = last_within c.args.full.now.items c.args.last.now c.args.place c.len.result c.requires.full (c.len.ensures ∙ c.args.full.now.ok.0) c.requires.within

pub slice_bounds-result-start-in-None : goal.slice_bounds-result-start-in-None
slice_bounds-result-start-in-None c = last_within c.args.full.now.items c.args.last.now c.args.place c.len.result c.requires.full (c.len.ensures ∙ c.args.full.now.ok.0) c.requires.within

pub returns-in-Some : goal.returns-in-Some
returns-in-Some c =
    part_in_full c.args.full.now.items c.args.last.now c.args.place c.args.full.now.len c.in-Some.piece.now c.deref.result.now c.requires.full c.args.full.now.ok.0 (c.in-Some.ensures.variant.0 refl) c.in-Some.ensures.lookup c.deref.ensures.value

pub returns-in-None : goal.returns-in-None
returns-in-None c =
    part_in_last c.args.full.now.items c.args.last.now c.args.place c.len.result c.requires.full (c.len.ensures ∙ c.args.full.now.ok.0)
    (λ below. absurd (let some = c.in-None.ensures.variant.1 (let e = c.len.ensures in omega (arith, below)) in cc)) c.requires.within
