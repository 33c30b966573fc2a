use Rattle.std.proofs.Common.{◌∙◌, ap}
use Rattle.std.proofs.lemmas.Result.{err_from_is_err_and}
use Rattle.list_actions.specs.Producers.{producer_of}
use Rattle.list_actions.specs.Made.{maker_of}
use Rattle.run_loading.proofs.Made.{all_there, work_ends, work_lost}
use Rattle.run_loading.proofs.loading.load_work.Goals as goal

pub returns-in_err-sources-clause-course : goal.returns-in_err-sources-clause-course
returns-in_err-sources-clause-course g c =
    let p = err_from_is_err_and c.from_residual-in_err-sources.result c.from_residual-in_err-sources.ensures.1 in
    let h = rw (c.as_slice-actions.ensures) at c.in_err-sources.ensures.course in
    rw (p.1, p.2) (work_lost (g.F.Floor.told c.args.floor.now) (g.F.Floor.told c.read_sources.new.floor) c.args.list.now.actions _ h)

pub work_of-requires-clause-files : goal.work_of-requires-clause-files
work_of-requires-clause-files g c =
    let h = rw (c.as_slice-actions.ensures) at c.in_ok-sources.ensures.course in
    all_there (g.F.Floor.told c.args.floor.now) (g.F.Floor.told c.read_sources.new.floor) (producer_of c.in_ok-producers.producers) c.args.list.now.actions c.as_slice-actions.result.now c.in_ok-sources.sources (c.in_ok-producers.ensures ∙ ap maker_of c.as_slice-actions.ensures) c.as_slice-actions.ensures h

pub returns-clause-course : goal.returns-clause-course
returns-clause-course g c =
    let h = rw (c.as_slice-actions.ensures) at c.in_ok-sources.ensures.course in
    work_ends (g.F.Floor.told c.args.floor.now) (g.F.Floor.told c.read_sources.new.floor) (producer_of c.in_ok-producers.producers) c.args.list.now.actions c.as_slice-actions.result.now c.in_ok-sources.sources c.work_of.result (c.in_ok-producers.ensures ∙ ap maker_of c.as_slice-actions.ensures) c.as_slice-actions.ensures h c.work_of.ensures
