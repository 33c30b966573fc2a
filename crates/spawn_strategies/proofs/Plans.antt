-- The plan of the chosen strategies, made of the plan of the list that has them.
use Rattle.std.proofs.Common.{◌≡◌, ◌≤◌, ℕ, suc, ◌+◌, true, false, cond, not, nat_eq, leb, List, [], ◌∷◌, ◌++◌, length, map, min, Option, Some, None, is_some, Result, Ok, Err, position, refl, sym, ap, ◌∙◌, arith}
use Rattle.std.proofs.lemmas.Bool.{leb-true}
use Rattle.std.proofs.lemmas.List.{append-nil, length-map}
use Rattle.run_plan.specs.declared.plan.Group.{Group}
use Rattle.run_plan.specs.declared.plan.Plan.{Plan}
use Rattle.run_plan.specs.Groups.{is_remote}
use Rattle.worker_key.specs.declared.key.Mode.{Mode}
use Rattle.worker_key.specs.declared.key.Mode.TheVariants as mode
use Rattle.list_actions.specs.declared.types.ListAction.{ListAction}
use Rattle.action_list.specs.Keys.{keys_of, mode_of}
use Rattle.action_list.specs.Plans.{executor_groups, group_by, groups_of, key_group, kind_by, local_key, plan_actions, plan_of, remote_users, share, users}
use Rattle.action_list.proofs.PlanLemmas.{plan_of-planned}
use Rattle.action_list.proofs.SoundActions.{planned}
use Rattle.action_list.proofs.SoundGroups.{executor}
use Rattle.spawn_strategies.specs.declared.types.ChoiceFault.{ChoiceFault}
use Rattle.spawn_strategies.specs.declared.types.ChoiceFault.TheVariants as fault
use Rattle.spawn_strategies.specs.declared.types.Name.{Name}
use Rattle.spawn_strategies.specs.declared.types.PlanLimits.{PlanLimits}
use Rattle.spawn_strategies.specs.declared.types.Strategies.{Strategies}
use Rattle.spawn_strategies.specs.Chosen.{chosen}
use Rattle.spawn_strategies.specs.Choices.{Refuses, all_placed, choice_of, chosen_actions, chosen_names, first_unsupported, groups_by, key_groups, name_in, name_of, plan_by, sandbox_groups, unless_many, unless_unsupported, with_name}
use Rattle.spawn_strategies.specs.Placing.{all_named, keyed, placing}
use Rattle.spawn_strategies.proofs.WholeCopies.{all_named_is}

-- ---- the names

pub names_are : (words : Strategies) (xs : List ListAction) → map name_in (map (chosen words) xs) ≡ chosen_names words xs
names_are words [] = refl
names_are words (x ∷ xs) = ap (λ ns. name_of words x ∷ ns) (names_are words xs)

pub passed : (o : Option ℕ) (ns ms : List Name) → unless_unsupported o (Ok ns) ≡ Ok ms → (o ≡ None) × (ns ≡ ms)
passed None ns ms e = let same : ns ≡ ms = cc in (refl, same)
passed (Some a) ns ms e = cc

-- the names of all actions, where each has a choice
pub all_names : (words : Strategies) (xs : List ListAction) (choices : List (Option Name)) (ns : List Name)
    → choices ≡ map (chosen words) xs → None ≡ position (λ choice. not (is_some choice)) choices → ns ≡ map name_in choices
    → unless_unsupported (first_unsupported words xs) (Ok (chosen_names words xs)) ≡ Ok ns
all_names words xs choices ns e none named =
    ap (λ o. unless_unsupported o (Ok (chosen_names words xs))) (sym (none ∙ ap (position (λ choice. not (is_some choice))) e))
    ∙ ap Ok (sym (names_are words xs) ∙ ap (map name_in) (sym e) ∙ sym named)

-- what refuses the names refuses the plan
pub refused_too : (e : ChoiceFault) (o : Option ℕ) (ns : List Name) (later : Result Plan ChoiceFault)
    → Refuses e (unless_unsupported o (Ok ns)) → Refuses e (unless_unsupported o later)
refused_too (fault.NoneSupports a) None ns later h = cc
refused_too (fault.NoneSupports a) (Some b) ns later h = let same : b ≡ a = cc in ap (λ n. Err (fault.NoneSupports n)) same
refused_too (fault.TooManyKeys k) None ns later h = cc
refused_too (fault.TooManyKeys k) (Some b) ns later h = cc
refused_too fault.NoMemory o ns later h = tt

-- ---- the groups of the keys

no_remote : (m : Mode) → not (is_remote (kind_by m)) ≡ true
no_remote mode.Single = refl
no_remote mode.Multi = refl
no_remote mode.Boxed = refl

no_executor : (o : Option ListAction) (n : ℕ) → not (is_remote (group_by o n).kind) ≡ true
no_executor None n = refl
no_executor (Some x) n = no_remote (mode_of x)

kept_keys : (xs : List ListAction) (held : List (Option (List ℕ))) (n : ℕ) (keys : List (List ℕ)) (gs : List Group)
    → keyed (map (key_group xs held n) keys ++ gs) ≡ map (key_group xs held n) keys ++ keyed gs
kept_keys xs held n [] gs = refl
kept_keys xs held n (key ∷ keys) gs =
    let g = key_group xs held n key in
    let rest = keyed (map (key_group xs held n) keys ++ gs) in
    ap (λ b. cond b (g ∷ rest) rest) (no_executor _ _) ∙ ap (λ hs. g ∷ hs) (kept_keys xs held n keys gs)

none_kept : (n : ℕ) → keyed (executor_groups n) ≡ []
none_kept n = elim (nat_eq n 0) as (λ b. keyed (cond b [] (executor n ∷ [])) ≡ []) [ true ↦ refl | false ↦ refl ]

pub keyed_are : (ys : List ListAction) (instances remote : ℕ)
    → keyed (groups_of ys (map local_key ys) (keys_of ys) instances remote) ≡ key_groups ys instances
keyed_are ys instances remote =
    let held = map local_key ys in
    let each = share (map (users held) (keys_of ys)) instances in
    kept_keys ys held each (keys_of ys) (executor_groups (min remote (remote_users ys)))
    ∙ ap (λ gs. key_groups ys instances ++ gs) (none_kept (min remote (remote_users ys)))
    ∙ append-nil (key_groups ys instances)

pub length-key_groups : (ys : List ListAction) (instances : ℕ) → length (key_groups ys instances) ≡ length (keys_of ys)
length-key_groups ys instances =
    length-map (keys_of ys) (key_group ys (map local_key ys) (share (map (users (map local_key ys)) (keys_of ys)) instances))

-- ---- the whole plan

module _ (ys : List ListAction) (ns : List Name) (sandboxed : ℕ) (l : PlanLimits) where
  -- the plan, as it is when these are the keys' groups, and so many
  abbrev made : ℕ → List Group → Plan
  made k gs = record {
    actions = all_placed k (k + length (sandbox_groups sandboxed ns)) ns (plan_actions (keys_of ys) [] ys);
    groups = groups_by gs ns sandboxed l.remote;
    limit = l.retries + 1;
  }

  placed_is : placing (planned ys l.instances l.remote l.retries) ns sandboxed l
      ≡ unless_many l.keys (length (keys_of ys)) (plan_by ys ns l.instances sandboxed l.remote l.retries)
  placed_is =
      ap (λ gs. unless_many l.keys (length gs) (made (length gs) gs)) (keyed_are ys l.instances l.remote)
      ∙ ap (λ k. unless_many l.keys k (made k (key_groups ys l.instances))) (length-key_groups ys l.instances)

-- the list that was made is that of the chosen strategies
pub copies_are : (xs : List ListAction) (words : Strategies) (ys : List ListAction) (ns : List Name)
    → unless_unsupported (first_unsupported words xs) (Ok (chosen_names words xs)) ≡ Ok ns
    → ys ≡ all_named ns xs → ys ≡ chosen_actions words xs
copies_are xs words ys ns e named =
    named ∙ ap (λ ms. all_named ms xs) (sym (passed (first_unsupported words xs) (chosen_names words xs) ns e).1)
    ∙ all_named_is (name_of words) xs

pub length-plan_actions : (keys : List (List ℕ)) (before xs : List ListAction) → length (plan_actions keys before xs) ≡ length xs
length-plan_actions keys before [] = refl
length-plan_actions keys before (x ∷ xs) = ap suc (length-plan_actions keys (before ++ x ∷ []) xs)

-- each planned action has a name
pub names_enough : (xs : List ListAction) (words : Strategies) (l : PlanLimits) (p : Plan) (ys : List ListAction) (ns : List Name)
    → unless_unsupported (first_unsupported words xs) (Ok (chosen_names words xs)) ≡ Ok ns
    → ys ≡ all_named ns xs → p ≡ plan_of ys l.instances l.remote l.retries → length ns ≡ length p.actions
names_enough xs words l p ys ns e named planned_is =
    let names = ap length (passed (first_unsupported words xs) (chosen_names words xs) ns e).1 in
    let copies = ap length (copies_are xs words ys ns e named) in
    let actions = ap (λ q. length q.actions) (planned_is ∙ sym (plan_of-planned ys l.instances l.remote l.retries)) in
    omega (arith, names, copies, actions, length-plan_actions (keys_of ys) [] ys, length-map xs (name_of words), length-map xs (λ x. with_name (name_of words x) x))

pub choice_is : (xs : List ListAction) (words : Strategies) (l : PlanLimits) (p : Plan) (ys : List ListAction) (ns : List Name)
    → unless_unsupported (first_unsupported words xs) (Ok (chosen_names words xs)) ≡ Ok ns
    → ys ≡ all_named ns xs → p ≡ plan_of ys l.instances l.remote l.retries
    → placing p ns words.sandboxed l ≡ choice_of xs words l
unfolding choice_of
choice_is xs words l p ys ns e named planned_is =
    let names = passed (first_unsupported words xs) (chosen_names words xs) ns e in
    let is = copies_are xs words ys ns e named in
    let due = plan_by (chosen_actions words xs) (chosen_names words xs) l.instances words.sandboxed l.remote l.retries in
    ap (λ q. placing q ns words.sandboxed l) (planned_is ∙ sym (plan_of-planned ys l.instances l.remote l.retries))
    ∙ ap (λ zs. placing (planned zs l.instances l.remote l.retries) ns words.sandboxed l) is
    ∙ ap (λ ms. placing (planned (chosen_actions words xs) l.instances l.remote l.retries) ms words.sandboxed l) (sym names.1)
    ∙ placed_is (chosen_actions words xs) (chosen_names words xs) words.sandboxed l
    ∙ ap (λ o. unless_unsupported o (unless_many l.keys (length (keys_of (chosen_actions words xs))) due)) (sym names.0)

-- a plan that is answered is the one of the chosen strategies, with few keys
pub answered : (o : Option ℕ) (most keys : ℕ) (p q : Plan) → unless_unsupported o (unless_many most keys p) ≡ Ok q → (keys ≤ most) × (p ≡ q)
answered (Some a) most keys p q e = cc
answered None most keys p q e =
    elim (leb keys most) as (λ b. leb keys most ≡ b → cond b (Ok p) (Err (fault.TooManyKeys keys)) ≡ Ok q → (keys ≤ most) × (p ≡ q)) [
      | true ↦ (λ few h. let same : p ≡ q = cc in (leb-true keys most few, same))
      | false ↦ (λ many h. cc)
    ]
    refl e
