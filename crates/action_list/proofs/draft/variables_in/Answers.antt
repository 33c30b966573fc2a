use Rattle.std.proofs.Common.{◌≡◌, IfOk, sym, subst}
use Rattle.action_list.specs.Format.{held}
use Rattle.action_list.proofs.Views.{variables_of_object}
use Rattle.action_list.proofs.draft.variables_in.Goals as goal

pub returns-in-Some : goal.returns-in-Some
returns-in-Some c =
    let seen = variables_of_object _ c.in-Some.members.now.entries c.in-Some.ensures in
    subst (λ t. IfOk c.all_variables.result (λ s. s ≡ held t)) (sym seen) c.all_variables.ensures
