use Rattle.std.proofs.lemmas.Result.{err_from_is_err_and}
use Rattle.run_loading.specs.Reads.{end_of}
use Rattle.run_loading.proofs.Courses.{list_leads, list_stops}
use Rattle.shared_tasks.specs.Course.{TaskRead, most_keys}
use Rattle.shared_tasks.proofs.reading.read_at.Goals as goal

pub returns-in_err-list-clause-course : goal.returns-in_err-list-clause-course
returns-in_err-list-clause-course g c =
    let told = g.F.Floor.told in
    let p = err_from_is_err_and c.from_residual.result c.from_residual.ensures.1 in
    rw (p.1, p.2)
    (list_stops (TaskRead c.args.options.now) (told c.args.floor.now)
    (told c.read_actions.new.floor) most_keys c.args.path.now _ c.in_err-list.ensures.course)

pub returns-clause-course : goal.returns-clause-course
returns-clause-course g c =
    let told = g.F.Floor.told in
    list_leads (TaskRead c.args.options.now) (end_of c.read_by_list.result)
    (told c.args.floor.now) (told c.read_actions.new.floor) (told c.read_by_list.new.floor)
    most_keys c.args.path.now c.in_ok-list.list c.read_by_list.result c.read_actions.ensures.files
    c.in_ok-list.ensures.course c.read_by_list.ensures.course
