use Rattle.std.proofs.Common.{◌≡◌, ◌+◌, sym, subst, ◌∙◌}
use Rattle.run_plan.specs.Sound.{Sound}
use Rattle.action_list.proofs.PlanLemmas.{plan_of-planned, whole_plan}
use Rattle.action_list.proofs.SoundActions.{planned, sound_plan}
use Rattle.action_list.proofs.planning.plan.Goals as goal

made : (c : goal.After-drop-made-4)
    → record { actions = c.in_ok-plan_actions.field-0; groups = c.in_ok-groups_of.field-0; limit = c.args.retries + 1 } ≡ planned c.args.list.now.actions c.args.instances c.args.remote c.args.retries
made c =
    whole_plan c.args.list.now.actions c.args.instances c.args.remote c.args.retries c.in_ok-made.made.keys _ _
    (rw c.as_slice-actions.ensures at c.in_ok-made.ensures.keys)
    (rw c.as_slice-actions.ensures at c.in_ok-plan_actions.ensures)
    (rw c.as_slice-actions.ensures at c.in_ok-groups_of.ensures)

pub returns-clause-plan : goal.returns-clause-plan
returns-clause-plan c = made c ∙ plan_of-planned c.args.list.now.actions c.args.instances c.args.remote c.args.retries

pub returns-clause-sound : goal.returns-clause-sound
returns-clause-sound c =
    subst (λ p. Sound p) (sym (made c))
    (sound_plan c.args.list.now.actions c.args.instances c.args.remote c.args.retries c.requires.whole c.requires.some_remote c.requires.few_remote c.requires.retries)
