use Rattle.std.proofs.Common.{Some, ap, ◌∙◌}
use Rattle.serde_json.specs.View.{items_view}
use Rattle.action_list.proofs.Views.{list_of_array, many_actions, some_actions}
use Rattle.action_list.proofs.top.list_in.Goals as goal

pub returns-then-values-gt-MOST_ACTIONS : goal.returns-then-values-gt-MOST_ACTIONS
returns-then-values-gt-MOST_ACTIONS c =
    let vs = c.as_slice-values.result.now in
    list_of_array _ vs (ap (λ l. Some (items_view l)) c.as_slice-values.ensures.value ∙ c.in-Some.ensures) ∙ many_actions vs c.if-values-gt-MOST_ACTIONS.true

pub returns-else-values-gt-MOST_ACTIONS : goal.returns-else-values-gt-MOST_ACTIONS
returns-else-values-gt-MOST_ACTIONS c =
    let vs = c.as_slice-values.result.now in
    (list_of_array _ vs (ap (λ l. Some (items_view l)) c.as_slice-values.ensures.value ∙ c.in-Some.ensures) ∙ some_actions vs c.if-values-gt-MOST_ACTIONS.false, c.if-values-gt-MOST_ACTIONS.false)
