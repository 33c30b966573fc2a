use Rattle.std.proofs.Common.{◌≡◌, drop, map}
use Rattle.serde_json.specs.View.{view}
use Rattle.json_messages.specs.Messages.{input_in}
use Rattle.json_messages.specs.Values.{each}
use Rattle.json_messages.proofs.Lists.{behind}
use Rattle.json_messages.proofs.read.inputs_in.Given as goal

abbrev pub invariant-loop-value : goal.invariant-loop-value
invariant-loop-value l = each input_in (map view l.list) ≡ behind l.inputs.items (each input_in (map view (drop l.value-index l.list)))
