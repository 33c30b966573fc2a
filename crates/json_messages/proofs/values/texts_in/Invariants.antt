use Rattle.std.proofs.Common.{◌≡◌, drop, map}
use Rattle.serde_json.specs.View.{view}
use Rattle.json_messages.specs.Values.{each, text_in}
use Rattle.json_messages.proofs.Lists.{behind}
use Rattle.json_messages.proofs.values.texts_in.Given as goal

abbrev pub invariant-loop-value : goal.invariant-loop-value
invariant-loop-value l = each (text_in l.key) (map view l.list) ≡ behind l.texts.items (each (text_in l.key) (map view (drop l.value-index l.list)))
