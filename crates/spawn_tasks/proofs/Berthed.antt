-- The plan of the chosen strategies has a berth for its first action.
use Rattle.std.proofs.Common.{◌≡◌, ℕ, ◌+◌, ◌≤◌, ◌==◌, Bool, false, cond, List, [], ◌∷◌, ◌++◌, length, map, min, sum_by, Ok, refl, sym, subst, arith}
use Rattle.std.specs.Prelude.{count_by}
use Rattle.std.proofs.lemmas.Bool.{eqb-true}
use Rattle.std.proofs.lemmas.List.Sums.{sum_by-append, sum_by-cons}
use Rattle.exec_journal.proofs.Ruled.{by_bool}
use Rattle.action_list.specs.Checks.{has_remote}
use Rattle.action_list.specs.Keys.{keys_of}
use Rattle.action_list.specs.Plans.{executor_groups, remote_users}
use Rattle.list_actions.specs.declared.types.ListAction.{ListAction}
use Rattle.run_plan.specs.declared.plan.Group.{Group}
use Rattle.run_plan.specs.declared.plan.Kind.TheVariants as kind
use Rattle.run_plan.specs.declared.plan.Plan.{Plan}
use Rattle.run_tasks.specs.Tasks.{HasBerths}
use Rattle.run_tasks.proofs.Berths.{first_berth}
use Rattle.spawn_strategies.specs.declared.types.Name.{Name}
use Rattle.spawn_strategies.specs.declared.types.Name.TheVariants as name
use Rattle.spawn_strategies.specs.declared.types.SpawnOptions.{SpawnOptions}
use Rattle.spawn_strategies.specs.Choices.{AreLimits, choice_of, chosen_actions, chosen_names, first_unsupported, groups_by, is_sandboxed, key_groups, name_of, plan_by, remote_groups, sandbox_groups, strategy_by, uses_executor, with_name}
use Rattle.spawn_strategies.specs.SpawnOptions.{AreFitting, AreGiven}
use Rattle.spawn_strategies.proofs.Plans.{answered}
use Rattle.spawn_tasks.specs.Tasks.{choice_by, own_limits}

abbrev sum : List Group → ℕ
sum gs = sum_by (λ g. g.berths) gs

-- as many berths as are asked
executors_are : (n : ℕ) → sum (executor_groups n) ≡ n
executors_are n = by_bool (n == 0)
    (λ b. (n == 0) ≡ b
    → sum (cond b [] (record { kind = kind.Remote; cancel = false; berths = n } ∷ [])) ≡ n)
    (λ _ e. sym (eqb-true n 0 e))
    (λ _ e. omega arith) refl

abbrev one_if : Bool → ℕ
one_if b = cond b 1 0

-- who has a remote branch to the keys is sandboxed or uses the executor
splits : (n : Name)
    → one_if (has_remote (strategy_by n)) ≡ one_if (is_sandboxed n) + one_if (uses_executor n)
splits name.Worker = refl
splits name.Sandboxed = refl
splits name.Remote = refl
splits name.Dynamic = refl

module _ (f : ListAction → Name) where
  abbrev with_own : ListAction → ListAction
  with_own x = with_name (f x) x

  users_split : (xs : List ListAction) → remote_users (map with_own xs)
      ≡ count_by is_sandboxed (map f xs) + count_by uses_executor (map f xs)
  users_split [] = refl
  users_split (x ∷ xs) =
      let rest = users_split xs in
      let here = splits (f x) in
      omega (
        arith,
        rest,
        here,
        sum_by-cons (λ (y : ListAction). one_if (has_remote y.strategy)) (with_own x)
            (map with_own xs),
        sum_by-cons (λ n. one_if (is_sandboxed n)) (f x) (map f xs),
        sum_by-cons (λ n. one_if (uses_executor n)) (f x) (map f xs),
      )

  some_berth : (x : ListAction) (rest : List ListAction) (instances sandboxed remote : ℕ)
      → 1 ≤ instances → 1 ≤ sandboxed → 1 ≤ remote
      → length (keys_of (map with_own (x ∷ rest))) ≤ 48
      → 1 ≤ sum (groups_by (key_groups (map with_own (x ∷ rest)) instances) (map f (x ∷ rest))
      sandboxed remote)
  some_berth x rest instances sandboxed remote some some_s some_r few =
      let ys = map with_own (x ∷ rest) in
      let ns = map f (x ∷ rest) in
      let keyed = key_groups ys instances in
      let own : 1 ≤ sum (keyed ++ executor_groups (min 1 (remote_users ys))) =
      first_berth (with_own x) (map with_own rest) instances 1 some (omega arith) few in
      omega (
        arith,
        own,
        some_s,
        some_r,
        users_split (x ∷ rest),
        sum_by-append (λ (g : Group). g.berths) keyed
            (executor_groups (min 1 (remote_users ys))),
        executors_are (min 1 (remote_users ys)),
        sum_by-append (λ (g : Group). g.berths) keyed
            (sandbox_groups sandboxed ns ++ remote_groups remote ns),
        sum_by-append (λ (g : Group). g.berths) (sandbox_groups sandboxed ns)
            (remote_groups remote ns),
        executors_are (min sandboxed (count_by is_sandboxed ns)),
        executors_are (min remote (count_by uses_executor ns)),
      )

  planned : (xs : List ListAction) (instances sandboxed remote retries : ℕ) → 1 ≤ instances
      → 1 ≤ sandboxed → 1 ≤ remote → length (keys_of (map with_own xs)) ≤ 48
      → HasBerths (plan_by (map with_own xs) (map f xs) instances sandboxed remote retries)
  planned [] instances sandboxed remote retries some some_s some_r few none = refl
  planned (x ∷ rest) instances sandboxed remote retries some some_s some_r few none =
      absurd (let one = some_berth x rest instances sandboxed remote some some_s some_r few in
      omega (arith, one, none))

-- the plan may be made by these limits
pub are_own_limits : (o : SpawnOptions) → AreGiven o → AreLimits (own_limits o)
are_own_limits o given = record {
  keys = omega arith;
  instances = given.options.instances.1;
  remote = given.options.remote.0;
  retries = given.options.retries;
}

pub has_berths : (o : SpawnOptions) (xs : List ListAction) (p : Plan) → AreFitting o
    → choice_by o xs ≡ Ok p → HasBerths p
unfolding choice_of
has_berths o xs p limits e =
    let words = o.strategies in
    let own = o.options in
    let due = plan_by (chosen_actions words xs) (chosen_names words xs) own.instances
    words.sandboxed own.remote own.retries in
    let is = answered (first_unsupported words xs) 48 (length (keys_of (chosen_actions words xs))) due
    p e in
    subst HasBerths is.1
    (planned (name_of words) xs own.instances words.sandboxed own.remote own.retries
    limits.given.options.instances.0 limits.given.some_sandboxed limits.given.options.remote.0 is.0)
