use Rattle.std.proofs.Common.{◌≡◌, ◌≤◌, take}
use Rattle.action_list.specs.Plans.{remote_users}
use Rattle.action_list.proofs.planning.remote_users.Given as goal

abbrev pub invariant-loop-action : goal.invariant-loop-action
invariant-loop-action l = record {
  counted : l.count ≡ remote_users (take l.action-index l.actions);
  bounded : l.count ≤ l.action-index;
}
