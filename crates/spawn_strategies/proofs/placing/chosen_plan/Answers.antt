use Rattle.std.proofs.Common.{sym, subst}
use Rattle.std.proofs.lemmas.Result.{err_from_is_err_and}
use Rattle.list_actions.specs.Whole.{IsWhole}
use Rattle.spawn_strategies.specs.Choices.{Answers, choice_of, name_of}
use Rattle.spawn_strategies.proofs.WholeCopies.{whole_copies}
use Rattle.spawn_strategies.proofs.Plans.{choice_is, copies_are, names_enough, refused_too}
use Rattle.spawn_strategies.proofs.Sounds.{sound_answer}
use Rattle.spawn_strategies.proofs.placing.chosen_plan.Goals as goal

pub returns-in_err-names-clause-plan : goal.returns-in_err-names-clause-plan
unfolding choice_of
returns-in_err-names-clause-plan c =
    let p = err_from_is_err_and c.from_residual.result c.from_residual.ensures.1 in
    rw (p.1, p.2) (refused_too c.in_err-names.field-0.0 _ _ _
    (rw c.as_slice-actions.ensures at c.in_err-names.ensures))

pub plan-requires-clause-whole : goal.plan-requires-clause-whole
plan-requires-clause-whole c =
    let words = c.args.words.now in
    let xs = c.args.list.now.actions in
    subst IsWhole
    (sym (copies_are xs words c.in_ok-chosen.chosen.actions c.in_ok-names.names
    (rw c.as_slice-actions.ensures at c.in_ok-names.ensures)
    (rw (c.as_slice.ensures, c.as_slice-actions.ensures) at c.in_ok-chosen.ensures)))
    (whole_copies (name_of words) xs c.requires.whole)

pub placed_plan-requires-clause-named : goal.placed_plan-requires-clause-named
placed_plan-requires-clause-named c =
    rw c.as_slice-2.ensures
    (names_enough c.args.list.now.actions c.args.words.now c.args.limits
    c.in_ok-planned.planned c.in_ok-chosen.chosen.actions c.in_ok-names.names
    (rw c.as_slice-actions.ensures at c.in_ok-names.ensures)
    (rw (c.as_slice.ensures, c.as_slice-actions.ensures) at c.in_ok-chosen.ensures)
    c.in_ok-planned.ensures.plan)

pub returns-clause-plan : goal.returns-clause-plan
returns-clause-plan c =
    subst (λ due. Answers c.placed_plan.result due)
    (choice_is c.args.list.now.actions c.args.words.now c.args.limits
    c.in_ok-planned.planned c.in_ok-chosen.chosen.actions c.in_ok-names.names
    (rw c.as_slice-actions.ensures at c.in_ok-names.ensures)
    (rw (c.as_slice.ensures, c.as_slice-actions.ensures) at c.in_ok-chosen.ensures)
    c.in_ok-planned.ensures.plan)
    (rw c.as_slice-2.ensures at c.placed_plan.ensures)

pub returns-clause-sound : goal.returns-clause-sound
returns-clause-sound c =
    sound_answer c.args.list.now.actions c.args.words.now c.args.limits
    c.placed_plan.result c.requires.some_sandboxed c.requires.few c.requires.limits
    c.requires.whole (returns-clause-plan c)
