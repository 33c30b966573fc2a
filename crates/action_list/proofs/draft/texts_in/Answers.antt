use Rattle.std.proofs.Common.{◌≡◌, Some, IfOk, sym, ap, subst, ◌∙◌}
use Rattle.serde_json.specs.View.{items_view}
use Rattle.action_list.specs.Format.{held}
use Rattle.action_list.proofs.Views.{texts_of_array}
use Rattle.action_list.proofs.draft.texts_in.Goals as goal

pub returns-in-Some : goal.returns-in-Some
returns-in-Some c =
    let seen = texts_of_array _ c.deref.result.now (ap (λ l. Some (items_view l)) c.deref.ensures.value ∙ c.in-Some.ensures) in
    subst (λ t. IfOk c.all_texts.result (λ s. s ≡ held t)) (sym seen) c.all_texts.ensures
