use Rattle.std.proofs.Common.{take}
use Rattle.bare_calls.specs.Starts.{SetsEach}
use Rattle.bare_calls.proofs.spawn.give_variables.Given as goal

abbrev pub invariant-loop-variable : goal.invariant-loop-variable
invariant-loop-variable l = SetsEach (take l.variable-index l.env) l.initial.start l.start
