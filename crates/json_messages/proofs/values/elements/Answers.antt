use Rattle.std.proofs.Common.{Some, ap, ◌∙◌}
use Rattle.serde_json.specs.View.{items_view}
use Rattle.json_messages.proofs.Lists.{elements_of}
use Rattle.json_messages.proofs.values.elements.Goals as goal

pub returns-in-Some : goal.returns-in-Some
returns-in-Some c = elements_of c.args.key _ c.as_slice.result.now (ap (λ l. Some (items_view l)) c.as_slice.ensures.value ∙ c.in-Some.ensures)
