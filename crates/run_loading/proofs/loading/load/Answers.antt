use Rattle.std.proofs.Common.{Err, None, Some, refl}
use Rattle.std.proofs.lemmas.Result.{err_from_is_err_and}
use Rattle.run_loading.specs.Course.{Loads}
use Rattle.run_loading.proofs.Courses.{list_leads, list_stops}
use Rattle.run_loading.proofs.loading.load.Goals as goal

pub returns-in_err-list-clause-course : goal.returns-in_err-list-clause-course
returns-in_err-list-clause-course g c =
    let p = err_from_is_err_and c.from_residual.result c.from_residual.ensures.1 in
    rw (p.1, p.2) (list_stops Loads (g.F.Floor.told c.args.floor.now) (g.F.Floor.told c.read_actions.new.floor) c.args.keys c.args.path.now _ c.in_err-list.ensures.course)

pub returns-in_err-work-clause-course : goal.returns-in_err-work-clause-course
returns-in_err-work-clause-course g c =
    let p = err_from_is_err_and c.from_residual-in_err-work.result c.from_residual-in_err-work.ensures.1 in
    rw (p.1, p.2) (list_leads Loads (Some c.in_err-work.field-0.0) (g.F.Floor.told c.args.floor.now) (g.F.Floor.told c.read_actions.new.floor) (g.F.Floor.told c.load_work.new.floor) c.args.keys c.args.path.now c.in_ok-list.list (Err c.in_err-work.field-0.0) c.read_actions.ensures.files c.in_ok-list.ensures.course c.in_err-work.ensures.course)

pub returns-clause-course : goal.returns-clause-course
returns-clause-course g c =
    let l = c.in_ok-work.ensures.course in
    list_leads Loads None (g.F.Floor.told c.args.floor.now) (g.F.Floor.told c.read_actions.new.floor) (g.F.Floor.told c.load_work.new.floor) c.args.keys c.args.path.now c.in_ok-list.list _ c.read_actions.ensures.files c.in_ok-list.ensures.course
    (l.0, l.1, l.2, (refl, l.3))
