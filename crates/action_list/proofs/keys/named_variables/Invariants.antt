use Rattle.std.proofs.Common.{◌≡◌, map, take}
use Rattle.action_list.specs.Keys.{named_variable}
use Rattle.action_list.proofs.keys.named_variables.Given as goal

abbrev pub invariant-loop-variable : goal.invariant-loop-variable
invariant-loop-variable l = l.named.items ≡ map named_variable (take l.variable-index l.variables)
