-- The chosen plan of worker keys that share berths: its executors have berths, and few, and its keys none.
use Rattle.std.proofs.Common.{◌≡◌, ℕ, ◌+◌, ◌≤◌, true, List, ◌++◌, length, map, min, Ok, subst, ◌∙◌, arith}
use Rattle.std.specs.Prelude.{count_by, sum_by}
use Rattle.std.specs.List.{list_all}
use Rattle.std.proofs.lemmas.Bool.{and_from}
use Rattle.std.proofs.lemmas.List.Folds.{list_all-append}
use Rattle.std.proofs.lemmas.List.Sums.{sum_by-append}
use Rattle.action_list.specs.Keys.{keys_of}
use Rattle.action_list.specs.Plans.{local_key}
use Rattle.list_actions.specs.declared.types.ListAction.{ListAction}
use Rattle.run_plan.specs.declared.plan.Group.{Group}
use Rattle.run_plan.specs.declared.plan.Plan.{Plan}
use Rattle.run_plan.specs.Groups.{berths}
use Rattle.shared_tasks.proofs.Bare.{executors_are, executors_berthed, keys_berthed, none_of_keys}
use Rattle.shared_tasks.proofs.Pooled.{is_berthed}
use Rattle.spawn_strategies.specs.declared.types.Name.{Name}
use Rattle.spawn_strategies.specs.declared.types.Strategies.{Strategies}
use Rattle.spawn_strategies.specs.Choices.{choice_of, chosen_actions, chosen_names, first_unsupported, groups_by, is_sandboxed, key_groups, plan_by, remote_groups, sandbox_groups, sandboxes, uses_executor}
use Rattle.spawn_strategies.proofs.Plans.{answered}
use Rattle.spawn_strategies.proofs.Sandboxed.{few_sandboxes}

abbrev sum : List Group → ℕ
sum gs = sum_by (λ (g : Group). g.berths) gs

module _ (ys : List ListAction) (ns : List Name) (sandboxed remote : ℕ) where
  abbrev groups : List Group
  groups = groups_by (key_groups ys 0) ns sandboxed remote

  abbrev in_sandboxes : ℕ
  in_sandboxes = min sandboxed (count_by is_sandboxed ns)

  abbrev on_executors : ℕ
  on_executors = min remote (count_by uses_executor ns)

  sum_is : sum groups ≡ in_sandboxes + on_executors
  sum_is =
      omega (
        arith,
        sum_by-append (λ (g : Group). g.berths) (key_groups ys 0)
            (sandbox_groups sandboxed ns ++ remote_groups remote ns),
        sum_by-append (λ (g : Group). g.berths) (sandbox_groups sandboxed ns)
            (remote_groups remote ns),
        none_of_keys ys (map local_key ys) (keys_of ys),
        executors_are in_sandboxes,
        executors_are on_executors,
      )

  all_berthed : list_all is_berthed groups ≡ true
  all_berthed =
      list_all-append is_berthed (key_groups ys 0)
      (sandbox_groups sandboxed ns ++ remote_groups remote ns)
      ∙ and_from _ _ (keys_berthed ys (map local_key ys) 0 (keys_of ys))
      (list_all-append is_berthed (sandbox_groups sandboxed ns) (remote_groups remote ns)
      ∙ and_from _ _ (executors_berthed in_sandboxes) (executors_berthed on_executors))

-- so of the chosen plan by these limits, where keys have no berths of their own
module _ (words : Strategies) (xs : List ListAction) (keys remote retries : ℕ) (p : Plan)
    (chosen : choice_of xs words (record { keys = keys; instances = 0; remote = remote; retries = retries }) ≡ Ok p)
  where
    abbrev due : Plan
    due = plan_by (chosen_actions words xs) (chosen_names words xs) 0 words.sandboxed remote retries

    is : due ≡ p
    unfolding choice_of
    is = (answered (first_unsupported words xs) keys (length (keys_of (chosen_actions words xs))) due p
        chosen).1

    pub few : sandboxes words + remote ≤ 16 → berths p ≤ 16
    few least =
        let some = few_sandboxes words xs in
        let all = sum_is (chosen_actions words xs) (chosen_names words xs) words.sandboxed remote in
        subst (λ (q : Plan). berths q ≤ 16) is (omega (arith, some, all, least))

    pub berthed : list_all is_berthed p.groups ≡ true
    berthed =
        subst (λ (q : Plan). list_all is_berthed q.groups ≡ true) is
        (all_berthed (chosen_actions words xs) (chosen_names words xs) words.sandboxed remote)
