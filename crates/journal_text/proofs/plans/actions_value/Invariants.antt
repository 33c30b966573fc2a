use Rattle.std.proofs.Common.{◌≡◌, ◌++◌, drop, map}
use Rattle.serde_json.specs.View.{view}
use Rattle.journal_text.specs.Fits.{Each, PlanActionFits}
use Rattle.journal_text.specs.Writing.{plan_action_data}
use Rattle.journal_text.proofs.plans.actions_value.Given as goal

abbrev pub invariant-loop-item : goal.invariant-loop-item
invariant-loop-item l = record {
  written : map view l.row.values.items ++ map plan_action_data (drop l.item-index l.items) ≡ map plan_action_data l.items;
  fits : Each PlanActionFits (drop l.item-index l.items) → Each PlanActionFits l.items;
}
