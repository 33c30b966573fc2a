-- What a run keeps by its clause it keeps by equations, since its objects tell.
use Rattle.real_placed.proofs.SharedWhole.{whole_shared}
use Rattle.real_placed.proofs.shared_told.run_told_shared.Goals as goal

pub returns-clause-whole : goal.returns-clause-whole
returns-clause-whole g c = λ before was.
    let ran = c.run_shared-ended in
    whole_shared _ (g.F.Floor.told c.args.floor) before ran.result was ran.ensures.run c.see.ensures
