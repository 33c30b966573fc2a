-- What a run keeps by its clause it keeps by equations, since its objects tell.
use Rattle.std.proofs.Common.{map, string_bytes}
use Rattle.real_placed.proofs.PlacedWhole.{whole_placed}
use Rattle.real_placed.proofs.placed_told.run_told_placed.Goals as goal

pub returns-clause-whole : goal.returns-clause-whole
returns-clause-whole g c = λ before was.
    let ran = c.run_placed-left in
    whole_placed (map string_bytes c.args.words.now) (g.F.Floor.told c.args.around.floor) before
    g.W.Pacer.told c.args.around.pacer ran.result.pacer ran.result.ended ran.result.refused was
    ran.ensures.run c.see.ensures
