use Rattle.std.proofs.Common.{◌≡◌, take}
use Rattle.action_list.proofs.twin.actions_again.Given as goal

abbrev pub invariant-loop-action : goal.invariant-loop-action
invariant-loop-action l = l.twins.items ≡ take l.action-index l.actions
