use Rattle.std.proofs.Common.{◌≡◌, ◌++◌, drop, map, take}
use Rattle.serde_json.specs.View.{view}
use Rattle.json_messages.specs.Messages.{input_in}
use Rattle.json_messages.specs.Values.{each}
use Rattle.json_messages.specs.Writing.{input_data}
use Rattle.json_messages.proofs.Lists.{behind}
use Rattle.json_messages.proofs.write.input_values.Given as goal

abbrev pub invariant-loop-input : goal.invariant-loop-input
invariant-loop-input l = record {
  written : map view l.values.items ++ map input_data (drop l.input-index l.inputs) ≡ map input_data l.inputs;
  again : each input_in (map input_data l.inputs) ≡ behind (take l.input-index l.inputs) (each input_in (map input_data (drop l.input-index l.inputs)));
}
