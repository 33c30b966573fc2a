use Rattle.std.proofs.Common.{◌≡◌, map, take}
use Rattle.ready_order.specs.Queue.{new_state}
use Rattle.ready_order.proofs.Ready.new.Given as goal

abbrev pub invariant-loop-work : goal.invariant-loop-work
invariant-loop-work l = l.actions.items ≡ map new_state (take l.work-index l.works)
