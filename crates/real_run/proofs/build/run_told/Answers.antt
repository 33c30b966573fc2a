-- What a run keeps by its clause it keeps by equations, since its objects tell.
use Rattle.real_run.proofs.Whole.{whole_run}
use Rattle.real_run.proofs.build.run_told.Goals as goal

pub returns-clause-whole : goal.returns-clause-whole
returns-clause-whole g c = λ before was.
    let ran = c.run_build-ended in
    whole_run _ (g.F.Floor.told c.args.floor) before ran.result was ran.ensures.run c.see.ensures
