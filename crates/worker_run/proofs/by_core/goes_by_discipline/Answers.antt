use Rattle.worker_run.proofs.by_core.goes_by_discipline.Goals as goal

pub returns-clause-is : goal.returns-clause-is
returns-clause-is g c b = (g.met.C.Rules.keeps b).is

pub returns-clause-kept : goal.returns-clause-kept
returns-clause-kept g c b j sound legal = g.met.C.Rules.kept_is b j sound legal
