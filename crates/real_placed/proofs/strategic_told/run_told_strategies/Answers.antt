-- What a run keeps by its clause it keeps by equations, since its objects tell.
use Rattle.real_placed.proofs.StrategicWhole.{whole_strategic}
use Rattle.real_placed.proofs.strategic_told.run_told_strategies.Goals as goal

pub returns-clause-whole : goal.returns-clause-whole
returns-clause-whole g c = λ before was.
    let ran = c.run_strategies-left in
    whole_strategic _ (g.F.Floor.told c.args.floor) before g.W.Pacer.told c.args.pacer ran.result.pacer ran.result.ended ran.result.refused was ran.ensures.run c.see.ensures
