use Rattle.std.proofs.Common.{◌≡◌, map, take}
use Rattle.action_list.specs.Plans.{local_key}
use Rattle.action_list.proofs.keys.local_keys.Given as goal

abbrev pub invariant-loop-action : goal.invariant-loop-action
invariant-loop-action l = l.held.items ≡ map local_key (take l.action-index l.actions)
