use Rattle.std.proofs.Common.{◌≡◌, drop}
use Rattle.action_list.specs.Checks.{value_of}
use Rattle.action_list.proofs.needs.value_of.Given as goal

abbrev pub invariant-loop-variable : goal.invariant-loop-variable
invariant-loop-variable l = value_of l.name l.variables ≡ value_of l.name (drop l.variable-index l.variables)
