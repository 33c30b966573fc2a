use Rattle.std.proofs.Common.{◌≡◌, map}
use Rattle.serde_json.specs.View.{view}
use Rattle.generated_list.specs.Generated.{actions_below}
use Rattle.generated_list.proofs.works.Given as goal

abbrev pub invariant-loop-number : goal.invariant-loop-number
invariant-loop-number l = map view l.works.items ≡ actions_below l.number
