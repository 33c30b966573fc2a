use Rattle.std.proofs.Common.{◌≡◌, ◌++◌, drop, map}
use Rattle.serde_json.specs.View.{view}
use Rattle.action_list.specs.Actions.{action_in}
use Rattle.action_list.specs.Checks.{actions_check}
use Rattle.action_list.proofs.listed.read_actions.Given as goal

abbrev pub invariant-loop-value : goal.invariant-loop-value
invariant-loop-value l = record {
  counted : l.number ≡ l.value-index;
  checked : actions_check 0 (map view l.values) ≡ actions_check l.value-index (map view (drop l.value-index l.values));
  made : l.actions.items ++ map action_in (map view (drop l.value-index l.values)) ≡ map action_in (map view l.values);
}
