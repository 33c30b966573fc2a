-- The action that a draft without a fault gives.
use Rattle.std.specs.Prelude.{ℕ, List, codes, unwrap_or}
use Rattle.serde_json.specs.Data.{Data}
use Rattle.plain_values.specs.declared.command.Variable.{Variable}
use Rattle.action_list.specs.declared.draft.Draft.{Draft}
use Rattle.action_list.specs.declared.draft.Slot.{Slot}
use Rattle.action_list.specs.declared.draft.Slot.TheVariants.{Missing, Other, Held}
use Rattle.list_actions.specs.declared.types.ListAction.{ListAction}
use Rattle.list_actions.specs.declared.types.Needs.{Needs}
use Rattle.list_actions.specs.declared.types.Strategy.{Strategy}
use Rattle.list_actions.specs.declared.types.Strategy.TheVariants as strategy
use Rattle.action_list.specs.Checks.{is_set, list_in, says, strategy_named, value_of}
use Rattle.action_list.specs.Format.{draft_of}

abbrev pub needs_of : List Variable → Needs
needs_of requirements = record {
  workers = is_set (codes "supports-workers") requirements;
  multiplex = is_set (codes "supports-multiplex-workers") requirements;
  cancel = is_set (codes "supports-worker-cancellation") requirements;
  sandboxing = is_set (codes "supports-multiplex-sandboxing") requirements;
  json = says (codes "json") (value_of (codes "requires-worker-protocol") requirements);
  key_mnemonic = value_of (codes "worker-key-mnemonic") requirements;
}

abbrev pub strategy_in : Slot (List ℕ) → Strategy
strategy_in Missing = strategy.Worker
strategy_in Other = strategy.Worker
strategy_in (Held s) = unwrap_or (strategy_named s) strategy.Worker

unfoldable pub action_of : Draft → ListAction
action_of d = record {
  name = list_in d.name;
  mnemonic = list_in d.mnemonic;
  argv = list_in d.argv;
  env = list_in d.env;
  tools = list_in d.tools;
  inputs = list_in d.inputs;
  outputs = list_in d.outputs;
  needs = needs_of (list_in d.requirements);
  strategy = strategy_in d.strategy;
}

abbrev pub action_in : Data → ListAction
action_in d = action_of (draft_of d)
