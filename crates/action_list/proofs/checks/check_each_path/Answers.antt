use Rattle.std.proofs.lemmas.Result.{err_from_is_err_and}
use Rattle.action_list.specs.Checks.{path_check}
use Rattle.list_actions.proofs.Firsts.{first_refused}
use Rattle.action_list.proofs.checks.check_each_path.Goals as goal

pub returns-in_err-check_one_path : goal.returns-in_err-check_one_path
returns-in_err-check_one_path c =
    let p = err_from_is_err_and c.from_residual.result c.from_residual.ensures.1 in
    rw (p.1, p.2) (first_refused (path_check c.args.action) c.args.paths.now c.loop-path.path-index c.path-item.result c.in_err-check_one_path.field-0.0 c.loop-path.invariant c.loop-path-test.true c.path-item.is (rw c.as_str.ensures at c.in_err-check_one_path.ensures))
