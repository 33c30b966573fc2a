use Rattle.spawn_tasks.specs.Course.{most_keys}
use Rattle.spawn_tasks.proofs.Told.{is_loaded, may_be_spawned}
use Rattle.spawn_tasks.proofs.reading.read_at.Goals as goal

pub returns-clause-runs : goal.returns-clause-runs
returns-clause-runs g c =
    let told = g.F.Floor.told in
    let loaded = c.in_ok-list.field-0 in
    let is = is_loaded most_keys loaded c.args.path.now (told c.args.floor.now)
    (told c.load.new.floor) c.in_ok-list.ensures.course in
    may_be_spawned c.args.options.now c.requires.fitting loaded.list c.in_ok-list.ensures.whole loaded.work
    is c.spawn_task_of.result c.spawn_task_of.ensures
