-- Each group that a branch of the plan of the chosen strategies names has a berth.
use Rattle.std.proofs.Common.{◌≡◌, ℕ, ◌+◌, ◌<◌, ◌≤◌, List, [], ◌++◌, length, map, min, get_or, Some, Ok, slice_get, true, refl, sym, ap, subst, ◌∙◌, arith}
use Rattle.std.specs.Prelude.{count_by}
use Rattle.std.proofs.lemmas.List.{length-map}
use Rattle.std.proofs.lemmas.Option.{slice_get-get_or, slice_get_within}
use Rattle.action_list.specs.Keys.{keys_of}
use Rattle.action_list.specs.Plans.{plan_actions}
use Rattle.run_values.specs.Runnable.{EachHasBerth}
use Rattle.list_actions.specs.declared.types.ListAction.{ListAction}
use Rattle.run_plan.specs.declared.plan.Branch.{Branch}
use Rattle.run_plan.specs.declared.plan.Branch.TheVariants.{Local, Remote}
use Rattle.run_plan.specs.declared.plan.Group.{Group}
use Rattle.run_plan.specs.declared.plan.Plan.{Plan}
use Rattle.run_plan.specs.declared.plan.PlanAction.{PlanAction}
use Rattle.run_plan.specs.Groups.{group_of}
use Rattle.run_tasks.proofs.Runnable.{Berthed, Planned, behind, counted, executor_berthed, has_berth, in_front, key_berthed, planned_at}
use Rattle.spawn_strategies.specs.declared.types.Name.{Name}
use Rattle.spawn_strategies.specs.declared.types.Name.TheVariants as name
use Rattle.spawn_strategies.specs.declared.types.SpawnOptions.{SpawnOptions}
use Rattle.spawn_strategies.specs.Choices.{choice_of, chosen_actions, chosen_names, first_unsupported, groups_by, is_sandboxed, key_groups, name_of, placed, plan_by, remote_groups, sandbox_groups, uses_executor, with_name}
use Rattle.spawn_strategies.specs.SpawnOptions.{AreFitting}
use Rattle.spawn_strategies.proofs.Placed.{length-all_placed}
use Rattle.spawn_strategies.proofs.Plans.{answered, length-key_groups, length-plan_actions}
use Rattle.spawn_tasks.specs.Tasks.{choice_by}
use Rattle.spawn_tasks.proofs.Sandboxes.{Branches, branches, placed_at}

-- ---- the groups

module _ (ys : List ListAction) (ns : List Name) (instances sandboxed remote : ℕ) where
  abbrev keys : ℕ
  keys = length (keys_of ys)

  abbrev executor : ℕ
  executor = keys + length (sandbox_groups sandboxed ns)

  abbrev groups : List Group
  groups = groups_by (key_groups ys instances) ns sandboxed remote

  abbrev others : List Group
  others = sandbox_groups sandboxed ns ++ remote_groups remote ns

  -- the group of the sandboxed actions stands behind those of the keys
  at_sandbox : 1 ≤ sandboxed → 1 ≤ count_by is_sandboxed ns → Berthed groups keys
  at_sandbox some user =
      let many = min sandboxed (count_by is_sandboxed ns) in
      let keyed = length-key_groups ys instances in
      behind (key_groups ys instances) others 0 keys (omega (arith, keyed))
      (in_front (sandbox_groups sandboxed ns) (remote_groups remote ns) 0
      (executor_berthed many (omega (arith, some, user))))

  -- and the executor behind them
  at_executor : 1 ≤ remote → 1 ≤ count_by uses_executor ns → Berthed groups executor
  at_executor some user =
      let many = min remote (count_by uses_executor ns) in
      let keyed = length-key_groups ys instances in
      let before = length (sandbox_groups sandboxed ns) in
      behind (key_groups ys instances) others before executor (omega (arith, keyed))
      (behind (sandbox_groups sandboxed ns) (remote_groups remote ns) 0 before (omega arith)
      (executor_berthed many (omega (arith, some, user))))

  -- ---- the branches of an action

  module _ (some : 1 ≤ instances) (some_s : 1 ≤ sandboxed) (some_r : 1 ≤ remote)
      (few : length (keys_of ys) ≤ 48) (a : ℕ) (z : PlanAction)
      (planned : Planned (keys_of ys) ys a z) where
    by_key : (g : ℕ) → z.local ≡ Some g → Berthed groups g
    by_key g is =
        in_front (key_groups ys instances) others g
        (key_berthed ys instances some few a g planned.action planned.here
        (sym planned.local ∙ is))

    by_executor : (g : ℕ) (n : Name) → slice_get ns a ≡ Some n → uses_executor n ≡ true
        → Some executor ≡ Some g → Berthed groups g
    by_executor g n named uses is =
        let same : executor ≡ g = cc in
        subst (λ k. Berthed groups k) same
        (at_executor some_r (counted uses_executor ns a n named uses))

    by_sandbox : (g : ℕ) → slice_get ns a ≡ Some name.Sandboxed → Some keys ≡ Some g
        → Berthed groups g
    by_sandbox g named is =
        let same : keys ≡ g = cc in
        subst (λ k. Berthed groups k) same
        (at_sandbox some_s (counted is_sandboxed ns a name.Sandboxed named refl))

    by_name : (n : Name) → slice_get ns a ≡ Some n → Branches keys n z → (b : Branch) (g : ℕ)
        → group_of (placed keys executor n z) b ≡ Some g → Berthed groups g
    by_name name.Worker named has Local g is = by_key g is
    by_name name.Worker named has Remote g is = absurd (let none = has.remote refl in cc)
    by_name name.Sandboxed named has Local g is = by_sandbox g named is
    by_name name.Sandboxed named has Remote g is = absurd (cc)
    by_name name.Remote named has Local g is = by_key g is
    by_name name.Remote named has Remote g is = by_executor g name.Remote named refl is
    by_name name.Dynamic named has Local g is = by_key g is
    by_name name.Dynamic named has Remote g is = by_executor g name.Dynamic named refl is

-- ---- the whole plan

module _ (f : ListAction → Name) (xs : List ListAction)
    (instances sandboxed remote retries : ℕ) where
  abbrev own : ListAction → ListAction
  own x = with_name (f x) x

  abbrev made : Plan
  made = plan_by (map own xs) (map f xs) instances sandboxed remote retries

  -- each action has a name
  named : (a : ℕ) (y : PlanAction) → slice_get made.actions a ≡ Some y
      → (n : Name) × (slice_get (map f xs) a ≡ Some n)
  named a y at =
      let ys = map own xs in
      let ns = map f xs in
      let keys = length (keys_of ys) in
      let planned = plan_actions (keys_of ys) [] ys in
      let executor = keys + length (sandbox_groups sandboxed ns) in
      let lt = slice_get_within made.actions a y at in
      let within : a < length ns = omega (
        arith,
        lt,
        length-all_placed keys executor ns planned,
        length-plan_actions (keys_of ys) [] ys,
        length-map xs own,
        length-map xs f,
      ) in
      (get_or ns a name.Remote, slice_get-get_or ns a name.Remote within)

  runnable : 1 ≤ instances → 1 ≤ sandboxed → 1 ≤ remote → length (keys_of (map own xs)) ≤ 48
      → EachHasBerth made
  runnable some some_s some_r few a y b g at is =
      let ys = map own xs in
      let ns = map f xs in
      let keys = length (keys_of ys) in
      let executor = keys + length (sandbox_groups sandboxed ns) in
      let n = named a y at in
      let z = placed_at keys executor ns (plan_actions (keys_of ys) [] ys) a n.0 y n.1 at in
      let planned = planned_at (keys_of ys) [] ys a z.0 z.1 in
      has_berth made g
      (by_name ys ns instances sandboxed remote some some_s some_r few a z.0 planned n.0 n.1
      (branches f (keys_of ys) [] xs a n.0 z.0 n.1 z.1) b g
      (ap (λ (v : PlanAction). group_of v b) z.2 ∙ is))

pub each_has_berth : (o : SpawnOptions) (xs : List ListAction) (p : Plan) → AreFitting o
    → choice_by o xs ≡ Ok p → EachHasBerth p
unfolding choice_of
each_has_berth o xs p limits e =
    let words = o.strategies in
    let own = o.options in
    let due = plan_by (chosen_actions words xs) (chosen_names words xs) own.instances
    words.sandboxed own.remote own.retries in
    let is = answered (first_unsupported words xs) 48 (length (keys_of (chosen_actions words xs))) due
    p e in
    subst EachHasBerth is.1
    (runnable (name_of words) xs own.instances words.sandboxed own.remote own.retries
    limits.given.options.instances.0 limits.given.some_sandboxed limits.given.options.remote.0 is.0)
