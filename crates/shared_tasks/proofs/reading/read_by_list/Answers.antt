use Rattle.shared_tasks.proofs.Told.{may_be_shared}
use Rattle.shared_tasks.proofs.reading.read_by_list.Goals as goal

pub returns-clause-runs : goal.returns-clause-runs
returns-clause-runs g c =
    let told = g.F.Floor.told in
    may_be_shared c.args.options.now c.requires.options c.args.list.now.actions c.requires.list
    (told c.args.floor.now) (told c.load_work.new.floor) c.in_ok-shared_task_of.field-0
    c.in_ok-work.work c.in_ok-shared_task_of.ensures.task c.in_ok-shared_task_of.ensures.work
    c.in_ok-work.ensures.course
