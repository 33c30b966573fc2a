use Rattle.std.proofs.lemmas.Result.{err_from_is_err_and}
use Rattle.run_loading.specs.Sources.{held}
use Rattle.run_loading.proofs.Courses.{new_before, new_found, new_lost}
use Rattle.run_loading.proofs.sources.Sources.read_new.Goals as goal

pub returns-in-Some-clause-course : goal.returns-in-Some-clause-course
returns-in-Some-clause-course g c = new_before (held c.args.self.now) c.args.path.now c.in-Some.field-0.now (g.F.Floor.told c.args.floor.now) c.in-Some.ensures

pub returns-in_err-bytes-in-None-clause-course : goal.returns-in_err-bytes-in-None-clause-course
returns-in_err-bytes-in-None-clause-course g c =
    let p = err_from_is_err_and c.from_residual.result c.from_residual.ensures.1 in
    rw (p.1, p.2) (new_lost (g.F.Floor.told c.args.floor.now) (g.F.Floor.told c.read_found.new.floor) (held c.args.self.now) (held c.args.self.now) c.args.path.now _ c.in-None.ensures c.in_err-bytes-in-None.ensures.course)

pub returns-in_ok-note-in-None-clause-course : goal.returns-in_ok-note-in-None-clause-course
returns-in_ok-note-in-None-clause-course g c =
    new_found (g.F.Floor.told c.args.floor.now) (g.F.Floor.told c.read_found.new.floor) (held c.args.self.now) (held c.note.new.self) c.args.path.now c.in_ok-bytes-in-None.bytes c.in-None.ensures c.in_ok-note-in-None.ensures c.in_ok-bytes-in-None.ensures.course
