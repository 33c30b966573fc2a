use Rattle.std.proofs.Common.{rules, [], refl, ap}
use Rattle.std.proofs.lemmas.Result.{err_from_is_err_and}
use Rattle.list_actions.specs.Producers.{producer_of}
use Rattle.list_actions.specs.Made.{maker_of}
use Rattle.run_loading.specs.Sources.{held}
use Rattle.run_loading.specs.Wanted.{Makers, paths_of_action, paths_of_actions}
use Rattle.run_loading.proofs.Courses.{reads_start, reads_go, reads_stop, reads_end, sources_found, sources_lost}
use Rattle.run_loading.proofs.sources.read_sources.Goals as goal

pub loop-action-init : goal.loop-action-init
loop-action-init g c = record {
  course = rw (c.new-sources.ensures) (reads_start (paths_of_action (producer_of c.args.producers.now)) (g.F.Floor.told c.args.floor.now) [] c.args.actions.now);
  count = search rules;
  files = search rules;
}

pub returns-in_err-read_action-clause-course : goal.returns-in_err-read_action-clause-course
returns-in_err-read_action-clause-course g c =
    let p = err_from_is_err_and c.from_residual.result c.from_residual.ensures.1 in
    let i = c.loop-action.invariant in
    let xs = c.args.actions.now in
    let makers = producer_of c.args.producers.now in
    let same = ap (λ (m : Makers). paths_of_actions m xs) c.requires in
    rw (p.1, p.2)
    (sources_lost (g.F.Floor.told c.args.floor.now) (g.F.Floor.told c.read_action.new.floor) (paths_of_actions makers xs) (paths_of_actions (maker_of xs) xs) (held c.read_action.new.self) _ same
    (reads_stop (paths_of_action makers) (g.F.Floor.told c.args.floor.now) (g.F.Floor.told c.loop-action.floor) (g.F.Floor.told c.read_action.new.floor) [] (held c.loop-action.sources) (held c.read_action.new.self) xs c.loop-action.action-index c.action-item.result _ (paths_of_actions makers xs) refl i.files (search rules) c.action-item.is i.course c.in_err-read_action.ensures.course))

pub loop-action-preserved : goal.loop-action-preserved
loop-action-preserved g c =
    let i = c.loop-action.invariant in
    record {
      course = reads_go (paths_of_action (producer_of c.args.producers.now)) (g.F.Floor.told c.args.floor.now) (g.F.Floor.told c.loop-action.floor) (g.F.Floor.told c.read_action.new.floor) [] (held c.loop-action.sources) (held c.read_action.new.self) c.args.actions.now c.loop-action.action-index c.action-item.result i.files (search rules) c.action-item.is i.course c.in_ok-read_action.ensures.course;
      count = search rules;
      files = search rules;
    }

pub returns-clause-course : goal.returns-clause-course
returns-clause-course g c =
    let xs = c.args.actions.now in
    let makers = producer_of c.args.producers.now in
    let same = ap (λ (m : Makers). paths_of_actions m xs) c.requires in
    sources_found (g.F.Floor.told c.args.floor.now) (g.F.Floor.told c.loop-action.floor) (paths_of_actions makers xs) (paths_of_actions (maker_of xs) xs) c.loop-action.sources same
    (reads_end (paths_of_action makers) (g.F.Floor.told c.args.floor.now) (g.F.Floor.told c.loop-action.floor) [] (held c.loop-action.sources) xs c.loop-action.action-index (paths_of_actions makers xs) refl c.loop-action-test.false c.loop-action.invariant.course)
