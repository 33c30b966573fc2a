use Rattle.run_tasks.proofs.Fits.{has_work}
use Rattle.run_tasks.proofs.reading.read_by_list.Goals as goal

pub returns-clause-work : goal.returns-clause-work
returns-clause-work g c =
    let told = g.F.Floor.told in
    has_work c.args.options.now c.args.list.now.actions (told c.args.floor.now)
    (told c.load_work.new.floor) c.in_ok-task_of.field-0.0 c.in_ok-work.work c.requires.list
    c.in_ok-task_of.ensures.task.plan c.in_ok-task_of.ensures.work c.in_ok-work.ensures.course
