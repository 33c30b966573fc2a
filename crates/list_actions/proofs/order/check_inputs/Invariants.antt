use Rattle.std.proofs.Common.{◌≡◌, List, drop, find}
use Rattle.list_actions.specs.declared.types.ListAction.{ListAction}
use Rattle.list_actions.specs.Order.{is_among, outputs_of}
use Rattle.list_actions.specs.Tables.{HasMakers}
use Rattle.list_actions.proofs.order.check_inputs.Given as goal

abbrev pub invariant-loop-path : goal.invariant-loop-path
invariant-loop-path l = (rest : List ListAction) → HasMakers l.makers l.number rest
    → find (is_among (outputs_of rest)) l.inputs ≡ find (is_among (outputs_of rest)) (drop l.path-index l.inputs)
