use Rattle.std.proofs.Common.{filter}
use Rattle.std.proofs.lemmas.Result.{err_from_is_err_and}
use Rattle.list_actions.specs.Producers.{producer_of}
use Rattle.run_loading.specs.Reads.{end_of}
use Rattle.run_loading.specs.Sources.{held}
use Rattle.run_loading.specs.Wanted.{is_source}
use Rattle.run_loading.proofs.Courses.{inputs_follow, tools_lost}
use Rattle.run_loading.proofs.sources.Sources.read_action.Goals as goal

pub returns-in_err-read_all-clause-course : goal.returns-in_err-read_all-clause-course
returns-in_err-read_all-clause-course g c =
    let p = err_from_is_err_and c.from_residual.result c.from_residual.ensures.1 in
    rw (p.1, p.2) (tools_lost (g.F.Floor.told c.args.floor.now) (g.F.Floor.told c.read_all.new.floor) (held c.args.self.now) (held c.read_all.new.self) c.args.action.now.tools (filter (is_source (producer_of c.args.producers.now)) c.args.action.now.inputs) _ (rw (c.as_slice.ensures) at c.in_err-read_all.ensures.course))

pub returns-clause-course : goal.returns-clause-course
returns-clause-course g c =
    inputs_follow (end_of c.read_inputs.result) (g.F.Floor.told c.args.floor.now) (g.F.Floor.told c.read_all.new.floor) (g.F.Floor.told c.read_inputs.new.floor) (held c.args.self.now) (held c.read_all.new.self) (held c.read_inputs.new.self) c.args.action.now.tools (filter (is_source (producer_of c.args.producers.now)) c.args.action.now.inputs) c.read_inputs.result c.read_all.ensures.files (rw (c.as_slice.ensures) at c.in_ok-read_all.ensures.course) (rw (c.as_slice-2.ensures) at c.read_inputs.ensures.course)
