use Rattle.std.proofs.Common.{rules, ◌∷◌, [], List, ℕ}
use Rattle.std.proofs.lemmas.Result.{err_from_is_err_and}
use Rattle.run_loading.specs.Sources.{held}
use Rattle.run_loading.proofs.Courses.{at_text, reads_start, reads_go, reads_stop, reads_end, singles}
use Rattle.run_loading.proofs.sources.Sources.read_all.Goals as goal

pub loop-path-init : goal.loop-path-init
loop-path-init g c = record {
  course = reads_start (λ (p : List ℕ). p ∷ []) (g.F.Floor.told c.args.floor.now) (held c.args.self.now) c.args.paths.now;
  count = search rules;
  files = search rules;
}

pub returns-in_err-read_new-clause-course : goal.returns-in_err-read_new-clause-course
returns-in_err-read_new-clause-course g c =
    let p = err_from_is_err_and c.from_residual.result c.from_residual.ensures.1 in
    let i = c.loop-path.invariant in
    let at = at_text c.args.paths.now c.loop-path.path-index c.path-item.result c.as_str.result.now c.path-item.is c.as_str.ensures in
    rw (p.1, p.2) (reads_stop (λ (p : List ℕ). p ∷ []) (g.F.Floor.told c.args.floor.now) (g.F.Floor.told c.loop-path.floor) (g.F.Floor.told c.read_new.new.floor) (held c.args.self.now) (held c.loop-path.self) (held c.read_new.new.self) c.args.paths.now c.loop-path.path-index c.as_str.result.now _ _ (singles c.args.paths.now) i.files (search rules) at i.course c.in_err-read_new.ensures.course)

pub loop-path-preserved : goal.loop-path-preserved
loop-path-preserved g c =
    let i = c.loop-path.invariant in
    let at = at_text c.args.paths.now c.loop-path.path-index c.path-item.result c.as_str.result.now c.path-item.is c.as_str.ensures in
    record {
      course = reads_go (λ (p : List ℕ). p ∷ []) (g.F.Floor.told c.args.floor.now) (g.F.Floor.told c.loop-path.floor) (g.F.Floor.told c.read_new.new.floor) (held c.args.self.now) (held c.loop-path.self) (held c.read_new.new.self) c.args.paths.now c.loop-path.path-index c.as_str.result.now i.files (search rules) at i.course c.in_ok-read_new.ensures.course;
      count = search rules;
      files = search rules;
    }

pub returns-clause-course : goal.returns-clause-course
returns-clause-course g c =
    reads_end (λ (p : List ℕ). p ∷ []) (g.F.Floor.told c.args.floor.now) (g.F.Floor.told c.loop-path.floor) (held c.args.self.now) (held c.loop-path.self) c.args.paths.now c.loop-path.path-index _ (singles c.args.paths.now) c.loop-path-test.false c.loop-path.invariant.course
