use Rattle.placed_tasks.proofs.Told.{is_loaded, may_be_placed}
use Rattle.placed_tasks.proofs.reading.read_by_options.Goals as goal

pub returns-clause-runs : goal.returns-clause-runs
returns-clause-runs g c =
    let told = g.F.Floor.told in
    let loaded = c.in_ok-list.field-0 in
    let is = is_loaded c.args.options.now loaded (told c.args.floor.now) (told c.loaded.new.floor)
    c.in_ok-list.ensures.course in
    may_be_placed c.args.options.now c.requires loaded.list c.in_ok-list.ensures.whole loaded.work
    is c.placed_task_of.result c.placed_task_of.ensures
