-- The group that has the sandbox executor's command is the one on which the sandboxed actions run.
use Rattle.std.proofs.Common.{◌≡◌, ℕ, zero, suc, ◌+◌, ◌<◌, ◌≤◌, ltb, eqb, Bool, true, false, not, ◌||◌, cond, List, [], ◌∷◌, ◌++◌, length, map, min, position, Option, Some, None, slice_get, refl, sym, ap, subst, ◌∙◌, arith, length-append}
use Rattle.std.specs.Prelude.{count_by}
use Rattle.std.specs.List.{list_any, position_or_len}
use Rattle.std.specs.Str.{bytes_eq}
use Rattle.std.proofs.lemmas.Bool.{cond-true, lt-ltb}
use Rattle.std.proofs.lemmas.Bool.Decides.{nat_tests}
use Rattle.std.proofs.lemmas.List.Quantifiers.{position-Some}
use Rattle.std.proofs.lemmas.List.Sums.{sum_by-cons}
use Rattle.worker_key.specs.declared.key.Mode.{Mode}
use Rattle.worker_key.specs.declared.key.Mode.TheVariants as mode
use Rattle.action_list.specs.Checks.{has_remote}
use Rattle.action_list.specs.Keys.{keys_of, mode_of}
use Rattle.action_list.specs.Plans.{executor_groups, first_user, group_by, key_group, kind_by, local_key, number_of, plan_action, plan_actions, share, users}
use Rattle.list_actions.specs.declared.types.ListAction.{ListAction}
use Rattle.run_plan.specs.declared.plan.Group.{Group}
use Rattle.run_plan.specs.declared.plan.Kind.TheVariants as kind
use Rattle.run_plan.specs.declared.plan.Plan.{Plan}
use Rattle.run_plan.specs.declared.plan.PlanAction.{PlanAction}
use Rattle.run_plan.specs.Groups.{is_remote}
use Rattle.spawn_strategies.specs.declared.types.Name.{Name}
use Rattle.spawn_strategies.specs.declared.types.Name.TheVariants as name
use Rattle.spawn_strategies.specs.Choices.{all_placed, choice_of, chosen_actions, chosen_names, first_unsupported, groups_by, is_sandboxed, key_groups, name_of, placed, plan_by, remote_groups, sandbox_groups, strategy_by, with_name}
use Rattle.spawn_strategies.proofs.Plans.{answered, length-key_groups}
use Rattle.spawn_tasks.specs.Laws.{HasGroupLaw, RunsBy, SandboxLaw}
use Rattle.spawn_tasks.specs.Tasks.{sandbox_group}

-- ---- the first group of kind Remote

abbrev runs_jobs : Group → Bool
runs_jobs g = is_remote g.kind

no_jobs : (m : Mode) → is_remote (kind_by m) ≡ false
no_jobs mode.Single = refl
no_jobs mode.Multi = refl
no_jobs mode.Boxed = refl

no_key_jobs : (o : Option ListAction) (n : ℕ) → runs_jobs (group_by o n) ≡ false
no_key_jobs None n = refl
no_key_jobs (Some x) n = no_jobs (mode_of x)

-- it stands behind those of the keys
behind_keys : (xs : List ListAction) (held : List (Option (List ℕ))) (n : ℕ)
    (keys : List (List ℕ)) (g : Group) (gs : List Group) → runs_jobs g ≡ true
    → position_or_len runs_jobs (map (key_group xs held n) keys ++ g ∷ gs) ≡ length keys
behind_keys xs held n [] g gs is = ap (λ b. cond (not b) (1 + position_or_len runs_jobs gs) 0) is
behind_keys xs held n (key ∷ keys) g gs is =
    let rest = map (key_group xs held n) keys ++ g ∷ gs in
    let later = behind_keys xs held n keys g gs is in
    ap (λ b. cond (not b) (1 + position_or_len runs_jobs rest) 0)
    (no_key_jobs (first_user xs held key) (min n (users held key)))
    ∙ omega (arith, later)

abbrev jobs : ℕ → Group
jobs n = record { kind = kind.Remote; cancel = false; berths = n }

some_group : (n : ℕ) → 1 ≤ n → executor_groups n ≡ jobs n ∷ []
some_group n some =
    let is : eqb n 0 ≡ false = grind (arith, nat_tests) in
    ap (λ b. cond b [] (jobs n ∷ [])) is

any_counted : (ns : List Name) → list_any is_sandboxed ns ≡ true
    → 1 ≤ count_by is_sandboxed ns
any_counted [] any = absurd (cc)
any_counted (n ∷ ns) any =
    let cons = sum_by-cons (λ m. cond (is_sandboxed m) 1 0) n ns in
    elim (is_sandboxed n)
    as (λ b. count_by is_sandboxed (n ∷ ns) ≡ cond b 1 0 + count_by is_sandboxed ns
    → (b || list_any is_sandboxed ns) ≡ true → 1 ≤ count_by is_sandboxed (n ∷ ns)) [
      | true ↦ (λ sum _. omega (arith, sum))
      | false ↦ (λ sum later. let rest = any_counted ns later in omega (arith, sum, rest))
    ] cons any

module _ (ys : List ListAction) (ns : List Name) (instances sandboxed remote : ℕ)
    (some : 1 ≤ sandboxed) (any : list_any is_sandboxed ns ≡ true) where
  abbrev groups : List Group
  groups = groups_by (key_groups ys instances) ns sandboxed remote

  abbrev many : ℕ
  many = min sandboxed (count_by is_sandboxed ns)

  one : sandbox_groups sandboxed ns ≡ jobs many ∷ []
  one = some_group many (let counted = any_counted ns any in omega (arith, some, counted))

  first : position_or_len runs_jobs groups ≡ length (keys_of ys)
  first =
      ap (λ gs. position_or_len runs_jobs
      (key_groups ys instances ++ (gs ++ remote_groups remote ns))) one
      ∙ behind_keys ys (map local_key ys)
      (share (map (users (map local_key ys)) (keys_of ys)) instances) (keys_of ys) (jobs many)
      (remote_groups remote ns) refl

  within : length (keys_of ys) < length groups
  within = omega (
    arith,
    length-append (key_groups ys instances)
        (sandbox_groups sandboxed ns ++ remote_groups remote ns),
    length-append (sandbox_groups sandboxed ns) (remote_groups remote ns),
    length-key_groups ys instances,
    ap length one,
  )

  at_keys : position runs_jobs groups ≡ Some (length (keys_of ys))
  at_keys =
      ap (λ i. cond (ltb i (length groups)) (Some i) None) first
      ∙ cond-true (ltb (length (keys_of ys)) (length groups)) _ _
      (lt-ltb (length (keys_of ys)) (length groups) within)

-- where there is one it stands behind those of the keys
is_behind : (ys : List ListAction) (ns : List Name) (instances sandboxed remote group : ℕ)
    → 1 ≤ sandboxed
    → sandbox_group (groups_by (key_groups ys instances) ns sandboxed remote) ns ≡ Some group
    → (list_any is_sandboxed ns ≡ true) × (group ≡ length (keys_of ys))
is_behind ys ns instances sandboxed remote group some is = by (list_any is_sandboxed ns) refl is
  where
    by : (b : Bool) → list_any is_sandboxed ns ≡ b
        → cond b (position runs_jobs (groups_by (key_groups ys instances) ns sandboxed remote)) None
        ≡ Some group → (list_any is_sandboxed ns ≡ true) × (group ≡ length (keys_of ys))
    by true any is =
        let at = at_keys ys ns instances sandboxed remote some any in
        (any, (let e : Some group ≡ Some (length (keys_of ys)) = sym is ∙ at in cc))
    by false any is = absurd (cc)

-- ---- the branches

-- of an action that is planned with its chosen strategy
pub record Branches (keys : ℕ) (n : Name) (y : PlanAction) : Type 0 where
  pub local : (i : ℕ) → y.local ≡ Some i → i < keys
  pub remote : n ≡ name.Worker → y.remote ≡ None

numbered : (keys : List (List ℕ)) (o : Option (List ℕ)) (i : ℕ) → number_of keys o ≡ Some i
    → i < length keys
numbered keys None i e = absurd (cc)
numbered keys (Some bytes) i e = (position-Some (λ key. bytes_eq key bytes) keys i [] e).0

module _ (f : ListAction → Name) where
  abbrev own : ListAction → ListAction
  own x = with_name (f x) x

  pub branches : (keys : List (List ℕ)) (before xs : List ListAction) (a : ℕ) (n : Name)
      (y : PlanAction) → slice_get (map f xs) a ≡ Some n
      → slice_get (plan_actions keys before (map own xs)) a ≡ Some y → Branches (length keys) n y
  branches keys before [] a n y named at = absurd (cc)
  branches keys before (x ∷ xs) zero n y named at =
      let is_n : f x ≡ n = cc in
      let is_y : plan_action keys before (own x) ≡ y = cc in
      subst (λ (z : PlanAction). Branches (length keys) n z) is_y (record {
        local = λ i e. numbered keys (local_key (own x)) i e;
        remote = λ worker. ap (λ m. cond (has_remote (strategy_by m)) (Some (length keys)) None)
            (is_n ∙ worker);
      })
  branches keys before (x ∷ xs) (suc a) n y named at =
      branches keys (before ++ own x ∷ []) xs a n y named at

pub placed_at : (sandbox executor : ℕ) (ns : List Name) (ys : List PlanAction) (a : ℕ) (n : Name)
    (y : PlanAction) → slice_get ns a ≡ Some n
    → slice_get (all_placed sandbox executor ns ys) a ≡ Some y
    → (z : PlanAction) × (slice_get ys a ≡ Some z) × (placed sandbox executor n z ≡ y)
placed_at sandbox executor [] ys a n y named at = absurd (cc)
placed_at sandbox executor (m ∷ ns) [] a n y named at = absurd (cc)
placed_at sandbox executor (m ∷ ns) (z ∷ ys) zero n y named at =
    let is_n : m ≡ n = cc in
    let is_y : placed sandbox executor m z ≡ y = cc in
    (z, refl, ap (λ k. placed sandbox executor k z) (sym is_n) ∙ is_y)
placed_at sandbox executor (m ∷ ns) (z ∷ ys) (suc a) n y named at =
    placed_at sandbox executor ns ys a n y named at

runs_by : (keys executor : ℕ) (n : Name) (z : PlanAction) → Branches keys n z → keys < executor
    → RunsBy keys n (placed keys executor n z)
runs_by keys executor name.Worker z has less = record {
  local = λ e. let lt = has.local keys e in omega (arith, lt);
  remote = λ e. let none = has.remote refl in cc;
}
runs_by keys executor name.Sandboxed z has less = record { local = refl; remote = refl }
runs_by keys executor name.Remote z has less = record {
  local = λ e. let lt = has.local keys e in omega (arith, lt);
  remote = λ e. let same : executor ≡ keys = cc in omega (arith, less, same);
}
runs_by keys executor name.Dynamic z has less = record {
  local = λ e. let lt = has.local keys e in omega (arith, lt);
  remote = λ e. let same : executor ≡ keys = cc in omega (arith, less, same);
}

-- ---- the laws

any_of : (ns : List Name) (a : ℕ) → slice_get ns a ≡ Some name.Sandboxed
    → list_any is_sandboxed ns ≡ true
any_of [] a at = absurd (cc)
any_of (n ∷ ns) zero at =
    let is : n ≡ name.Sandboxed = cc in ap (λ m. is_sandboxed m || list_any is_sandboxed ns) is
any_of (n ∷ ns) (suc a) at = or_right (is_sandboxed n) (list_any is_sandboxed ns) (any_of ns a at)
  where
    or_right : (p q : Bool) → q ≡ true → (p || q) ≡ true
    or_right true q e = refl
    or_right false q e = e

pub sandbox_law : SandboxLaw
unfolding choice_of
sandbox_law o xs p a group n y h is_group =
    let words = o.strategies in
    let ys = chosen_actions words xs in
    let ns = chosen_names words xs in
    let sandboxed = words.sandboxed in
    let due = plan_by ys ns h.limits.instances sandboxed h.limits.remote h.limits.retries in
    let is = (answered (first_unsupported words xs) h.limits.keys (length (keys_of ys)) due p h.chosen).1 in
    let own_group = ap (λ (q : Plan). sandbox_group q.groups ns) is ∙ is_group in
    let own_action = ap (λ (q : Plan). slice_get q.actions a) is ∙ h.action in
    let some = h.given.some_sandboxed in
    let place = is_behind ys ns h.limits.instances sandboxed h.limits.remote group some
    own_group in
    let keys = length (keys_of ys) in
    let executor = keys + length (sandbox_groups sandboxed ns) in
    let z = placed_at keys executor ns (plan_actions (keys_of ys) [] ys) a n y h.named own_action in
    let less : keys < executor =
    let e = ap length (one ys ns h.limits.instances sandboxed h.limits.remote some place.0) in
    omega (arith, e) in
    subst (λ k. RunsBy k n y) (sym place.1)
    (subst (λ (v : PlanAction). RunsBy keys n v) z.2
    (runs_by keys executor n z.0
    (branches (name_of words) (keys_of ys) [] xs a n z.0 h.named z.1) less))

pub has_group_law : HasGroupLaw
unfolding choice_of
has_group_law o xs p a y h =
    let words = o.strategies in
    let ys = chosen_actions words xs in
    let ns = chosen_names words xs in
    let due = plan_by ys ns h.limits.instances words.sandboxed h.limits.remote
    h.limits.retries in
    let is = (answered (first_unsupported words xs) h.limits.keys (length (keys_of ys)) due p h.chosen).1 in
    let any = any_of ns a h.named in (
      length (keys_of ys),
      ap (λ (q : Plan). sandbox_group q.groups ns) (sym is)
          ∙ ap (λ b. cond b (position runs_jobs due.groups) None) any
          ∙ at_keys ys ns h.limits.instances words.sandboxed h.limits.remote
          h.given.some_sandboxed any,
    )
