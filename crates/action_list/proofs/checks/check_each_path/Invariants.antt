use Rattle.std.proofs.Common.{◌≡◌, drop, map}
use Rattle.list_actions.specs.Answers.{first}
use Rattle.action_list.specs.Checks.{path_check}
use Rattle.action_list.proofs.checks.check_each_path.Given as goal

abbrev pub invariant-loop-path : goal.invariant-loop-path
invariant-loop-path l = first (map (path_check l.action) l.paths) ≡ first (map (path_check l.action) (drop l.path-index l.paths))
