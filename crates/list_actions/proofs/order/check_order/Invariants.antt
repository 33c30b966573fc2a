use Rattle.std.proofs.Common.{◌≡◌, [], drop, take}
use Rattle.list_actions.specs.Order.{orders_check, outputs_of}
use Rattle.list_actions.specs.Tables.{HasNames, HasPaths}
use Rattle.list_actions.proofs.order.check_order.Given as goal

abbrev pub invariant-loop-action : goal.invariant-loop-action
invariant-loop-action l = record {
  counted : l.number ≡ l.action-index;
  checked : orders_check [] l.actions ≡ orders_check (take l.action-index l.actions) (drop l.action-index l.actions);
  named : HasNames l.names (take l.action-index l.actions);
  made_before : HasPaths l.made (outputs_of (take l.action-index l.actions));
}
