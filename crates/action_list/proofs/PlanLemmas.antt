-- The parts of a plan together.
use Rattle.std.proofs.Common.{◌≡◌, ℕ, ◌+◌, List, [], map, refl, ap, ◌∙◌}
use Rattle.run_plan.specs.declared.plan.Group.{Group}
use Rattle.run_plan.specs.declared.plan.Plan.{Plan}
use Rattle.run_plan.specs.declared.plan.PlanAction.{PlanAction}
use Rattle.list_actions.specs.declared.types.ListAction.{ListAction}
use Rattle.action_list.specs.Keys.{keys_of}
use Rattle.action_list.specs.Plans.{groups_of, local_key, plan_actions, plan_of}
use Rattle.action_list.proofs.SoundActions.{planned}

pub whole_plan : (xs : List ListAction) (instances remote retries : ℕ) (keys : List (List ℕ))
    (actions : List PlanAction) (groups : List Group) → keys ≡ keys_of xs
    → actions ≡ plan_actions keys [] xs → groups ≡ groups_of xs (map local_key xs) keys instances remote
    → record { actions = actions; groups = groups; limit = retries + 1 } ≡ planned xs instances remote retries
whole_plan xs instances remote retries keys actions groups of_keys of_actions of_groups =
    let with_actions : List PlanAction → Plan = λ v. record { actions = v; groups = groups; limit = retries + 1 } in
    let with_groups : List Group → Plan = λ v. record { actions = plan_actions (keys_of xs) [] xs; groups = v; limit = retries + 1 } in
    ap with_actions (of_actions ∙ ap (λ ks. plan_actions ks [] xs) of_keys)
    ∙ ap with_groups (of_groups ∙ ap (λ ks. groups_of xs (map local_key xs) ks instances remote) of_keys)

pub plan_of-planned : (xs : List ListAction) (instances remote retries : ℕ) → planned xs instances remote retries ≡ plan_of xs instances remote retries
unfolding plan_of
plan_of-planned xs instances remote retries = refl
