use Rattle.std.proofs.Common.{rules, ◌∷◌, [], List, ℕ, filter}
use Rattle.std.proofs.lemmas.Result.{err_from_is_err_and}
use Rattle.list_actions.specs.Producers.{producer_of}
use Rattle.run_loading.specs.Sources.{held}
use Rattle.run_loading.specs.Wanted.{is_source}
use Rattle.run_loading.proofs.Courses.{at_text, reads_start, reads_go, reads_stop, reads_end, kept_each}
use Rattle.run_loading.proofs.sources.Sources.read_inputs.Goals as goal

pub loop-path-init : goal.loop-path-init
loop-path-init g c = record {
  course = reads_start (λ (p : List ℕ). filter (is_source (producer_of c.args.producers.now)) (p ∷ [])) (g.F.Floor.told c.args.floor.now) (held c.args.self.now) c.args.paths.now;
  count = search rules;
  files = search rules;
}

pub returns-in_err-read_input-clause-course : goal.returns-in_err-read_input-clause-course
returns-in_err-read_input-clause-course g c =
    let p = err_from_is_err_and c.from_residual.result c.from_residual.ensures.1 in
    let i = c.loop-path.invariant in
    let at = at_text c.args.paths.now c.loop-path.path-index c.path-item.result c.as_str.result.now c.path-item.is c.as_str.ensures in
    rw (p.1, p.2) (reads_stop (λ (p : List ℕ). filter (is_source (producer_of c.args.producers.now)) (p ∷ [])) (g.F.Floor.told c.args.floor.now) (g.F.Floor.told c.loop-path.floor) (g.F.Floor.told c.read_input.new.floor) (held c.args.self.now) (held c.loop-path.self) (held c.read_input.new.self) c.args.paths.now c.loop-path.path-index c.as_str.result.now _ _ (kept_each (is_source (producer_of c.args.producers.now)) c.args.paths.now) i.files (search rules) at i.course c.in_err-read_input.ensures.course)

pub loop-path-preserved : goal.loop-path-preserved
loop-path-preserved g c =
    let i = c.loop-path.invariant in
    let at = at_text c.args.paths.now c.loop-path.path-index c.path-item.result c.as_str.result.now c.path-item.is c.as_str.ensures in
    record {
      course = reads_go (λ (p : List ℕ). filter (is_source (producer_of c.args.producers.now)) (p ∷ [])) (g.F.Floor.told c.args.floor.now) (g.F.Floor.told c.loop-path.floor) (g.F.Floor.told c.read_input.new.floor) (held c.args.self.now) (held c.loop-path.self) (held c.read_input.new.self) c.args.paths.now c.loop-path.path-index c.as_str.result.now i.files (search rules) at i.course c.in_ok-read_input.ensures.course;
      count = search rules;
      files = search rules;
    }

pub returns-clause-course : goal.returns-clause-course
returns-clause-course g c =
    reads_end (λ (p : List ℕ). filter (is_source (producer_of c.args.producers.now)) (p ∷ [])) (g.F.Floor.told c.args.floor.now) (g.F.Floor.told c.loop-path.floor) (held c.args.self.now) (held c.loop-path.self) c.args.paths.now c.loop-path.path-index _ (kept_each (is_source (producer_of c.args.producers.now)) c.args.paths.now) c.loop-path-test.false c.loop-path.invariant.course
