use Rattle.std.proofs.Common.{◌≡◌, ℕ, ◌++◌, List, drop, take}
use Rattle.list_actions.specs.Order.{first_again}
use Rattle.list_actions.specs.Tables.{HasPaths}
use Rattle.list_actions.proofs.order.check_outputs.Given as goal

abbrev pub invariant-loop-path : goal.invariant-loop-path
invariant-loop-path l = record {
  again : (before : List (List ℕ)) → HasPaths l.initial.made before → first_again before l.outputs ≡ first_again (before ++ take l.path-index l.outputs) (drop l.path-index l.outputs);
  seen : (before : List (List ℕ)) → HasPaths l.initial.made before → HasPaths l.made (before ++ take l.path-index l.outputs);
}
