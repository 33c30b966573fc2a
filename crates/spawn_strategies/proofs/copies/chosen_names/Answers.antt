use Rattle.std.proofs.Common.{sym, ◌∙◌}
use Rattle.spawn_strategies.proofs.Plans.{all_names}
use Rattle.spawn_strategies.proofs.copies.chosen_names.Goals as goal

pub returns : goal.returns
returns c =
    all_names c.args.words.now c.args.actions.now c.in_ok-choices.choices.items _
    c.in_ok-choices.ensures
    (sym c.in-None.is ∙ (rw c.as_slice.ensures.value at c.first_without.ensures.place))
    (rw c.as_slice-in-None.ensures.value at c.in_ok-names_in-in-None.ensures)
