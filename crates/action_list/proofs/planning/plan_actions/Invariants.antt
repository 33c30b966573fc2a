use Rattle.std.proofs.Common.{◌≡◌, ◌++◌, [], drop, take}
use Rattle.action_list.specs.Plans.{plan_actions}
use Rattle.list_actions.specs.Whole.{KnowsProducers}
use Rattle.action_list.proofs.planning.plan_actions.Given as goal

abbrev pub invariant-loop-action : goal.invariant-loop-action
invariant-loop-action l = record {
  counted : l.number ≡ l.action-index;
  known : KnowsProducers l.producers (take l.action-index l.actions);
  made : l.planned.items ++ plan_actions l.made.keys (take l.action-index l.actions) (drop l.action-index l.actions) ≡ plan_actions l.made.keys [] l.actions;
}
