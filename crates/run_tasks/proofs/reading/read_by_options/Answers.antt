use Rattle.run_tasks.proofs.Berths.{generated_has_berths, list_has_berths}
use Rattle.run_tasks.proofs.Runnable.{generated_is_runnable, list_is_runnable}
use Rattle.run_tasks.proofs.reading.read_by_options.Goals as goal

pub returns-in-Some-clause-berths : goal.returns-in-Some-clause-berths
returns-in-Some-clause-berths g c =
    let told = g.F.Floor.told in
    generated_has_berths c.args.options.now (told c.args.floor.now)
    (told c.read_generated.new.floor) c.in-Some.actions c.read_generated.result c.requires
    c.read_generated.ensures.course

pub returns-clause-berths : goal.returns-clause-berths
returns-clause-berths g c =
    let told = g.F.Floor.told in
    list_has_berths c.args.options.now (told c.args.floor.now) (told c.read_at.new.floor)
    c.as_str.result.now c.read_at.result c.requires c.read_at.ensures.course

pub returns-in-Some-clause-runnable : goal.returns-in-Some-clause-runnable
returns-in-Some-clause-runnable g c =
    let told = g.F.Floor.told in
    generated_is_runnable c.args.options.now (told c.args.floor.now)
    (told c.read_generated.new.floor) c.in-Some.actions c.read_generated.result c.requires
    c.read_generated.ensures.course

pub returns-clause-runnable : goal.returns-clause-runnable
returns-clause-runnable g c =
    let told = g.F.Floor.told in
    list_is_runnable c.args.options.now (told c.args.floor.now) (told c.read_at.new.floor)
    c.as_str.result.now c.read_at.result c.requires c.read_at.ensures.course
