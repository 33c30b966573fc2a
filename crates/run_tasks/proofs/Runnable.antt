-- Each group that a branch of a planned action names has a berth.
use Rattle.std.proofs.Common.{◌≡◌, ℕ, zero, suc, ◌+◌, ◌-◌, ◌<◌, ◌≤◌, nat_lt, eqb, Bool, true, false, cond, List, [], ◌∷◌, ◌++◌, length, map, min, get_or, Option, Some, None, IfOk, option_map, slice_get, refl, sym, ap, subst, ◌∙◌, arith}
use Rattle.std.specs.Prelude.{count_by, sum_by}
use Rattle.std.specs.Str.{bytes_eq}
use Rattle.std.proofs.lemmas.Bool.{lt-ltb}
use Rattle.std.proofs.lemmas.Bool.Decides.{nat_tests}
use Rattle.std.proofs.lemmas.List.{length-map}
use Rattle.std.proofs.lemmas.List.Quantifiers.{position-Some}
use Rattle.std.proofs.lemmas.List.Sums.{sum_by-cons}
use Rattle.std.proofs.lemmas.Option.{slice_get-get_or, slice_get-map}
use Rattle.list_actions.specs.declared.types.ListAction.{ListAction}
use Rattle.action_list.specs.Checks.{has_remote}
use Rattle.action_list.specs.Keys.{keys_of}
use Rattle.action_list.specs.Plans.{executor_groups, first_user, group_by, groups_of, is_key, key_group, local_key, local_of, number_of, plan_action, plan_actions, plan_of, remote_of, remote_users, share, users}
use Rattle.run_values.specs.Runnable.{EachHasBerth, HasBerth}
use Rattle.outside.specs.Told.{FloorTold}
use Rattle.run_loading.specs.Reads.{Leads}
use Rattle.run_plan.specs.declared.plan.Branch.TheVariants.{Local, Remote}
use Rattle.run_plan.specs.declared.plan.Group.{Group}
use Rattle.run_plan.specs.declared.plan.Kind.TheVariants as kind
use Rattle.run_plan.specs.declared.plan.Plan.{Plan}
use Rattle.run_plan.specs.declared.plan.PlanAction.{PlanAction}
use Rattle.run_plan.specs.Groups.{group_from}
use Rattle.tool_words.specs.Options.{AreInLimits}
use Rattle.tool_words.specs.declared.options.Options.{Options}
use Rattle.run_tasks.specs.Course.{GeneratedRead, ListRead, Made}
use Rattle.run_tasks.specs.Tasks.{plan_by}
use Rattle.run_tasks.proofs.Berths.{berths_by, generated_plan, list_plan, shares}

-- ---- the berths of a group

abbrev sum : List Group → ℕ
sum gs = sum_by (λ g. g.berths) gs

-- the group of this number is one of these, and has a berth at least
pub record Berthed (gs : List Group) (g : ℕ) : Type 0 where
  pub group : Group
  pub here : slice_get gs g ≡ Some group
  pub some : 1 ≤ group.berths

-- a berth of the group i of these, the first of which has the number n
record Found (n : ℕ) (gs : List Group) (i : ℕ) : Type 0 where
  berth : ℕ
  within : berth < sum gs
  is : group_from n gs berth ≡ Some (n + i)

found_first : (n : ℕ) (g : Group) (gs : List Group) → 1 ≤ g.berths → Found n (g ∷ gs) 0
found_first n g gs some =
    let cons = sum_by-cons (λ (x : Group). x.berths) g gs in
    let first : nat_lt 0 g.berths ≡ true = lt-ltb 0 g.berths (omega (arith, some)) in
    let same : n ≡ n + 0 = omega arith in record {
      berth = 0;
      within = omega (arith, cons, some);
      is = rw first (ap Some same);
    }

-- the berths of this group stand before those of the later ones
found_later : (n : ℕ) (g : Group) (gs : List Group) (i : ℕ) → Found (n + 1) gs i
    → Found n (g ∷ gs) (suc i)
found_later n g gs i rest =
    let cons = sum_by-cons (λ (x : Group). x.berths) g gs in
    let w = g.berths + rest.berth in
    let beyond : nat_lt w g.berths ≡ false = grind (arith, nat_tests) in
    let own : w - g.berths ≡ rest.berth = omega arith in
    let place : n + 1 + i ≡ n + suc i = omega arith in record {
      berth = w;
      within = let less = rest.within in omega (arith, cons, less);
      is = rw beyond (ap (λ v. group_from (n + 1) gs v) own ∙ rest.is ∙ ap Some place);
    }

found : (n : ℕ) (gs : List Group) (i : ℕ) (g : Group) → slice_get gs i ≡ Some g
    → 1 ≤ g.berths → Found n gs i
found n [] i g at some = absurd (cc)
found n (h ∷ gs) zero g at some =
    let same : h ≡ g = cc in
    found_first n h gs (subst (λ (x : Group). 1 ≤ x.berths) (sym same) some)
found n (h ∷ gs) (suc i) g at some = found_later n h gs i (found (n + 1) gs i g at some)

pub has_berth : (p : Plan) (g : ℕ) → Berthed p.groups g → HasBerth p g
has_berth p g b =
    let f = found 0 p.groups g b.group b.here b.some in
    let same : 0 + g ≡ g = omega arith in
    record { berth = f.berth; within = f.within; is = f.is ∙ ap Some same }

-- ---- groups among others

module _ {X : Type 0} where
  front_here : (xs ys : List X) (i : ℕ) (x : X) → slice_get xs i ≡ Some x
      → slice_get (xs ++ ys) i ≡ Some x
  front_here [] ys i x at = absurd (cc)
  front_here (z ∷ xs) ys zero x at = at
  front_here (z ∷ xs) ys (suc i) x at = front_here xs ys i x at

  behind_here : (xs ys : List X) (i k : ℕ) (x : X) → length xs + i ≡ k
      → slice_get ys i ≡ Some x → slice_get (xs ++ ys) k ≡ Some x
  behind_here [] ys i k x is at =
      let same : k ≡ i = omega (arith, is) in ap (λ n. slice_get ys n) same ∙ at
  behind_here (z ∷ xs) ys i zero x is at = absurd (omega (arith, is))
  behind_here (z ∷ xs) ys i (suc k) x is at = behind_here xs ys i k x (omega (arith, is)) at

  -- who passes is counted
  pub counted : (test : X → Bool) (xs : List X) (a : ℕ) (x : X) → slice_get xs a ≡ Some x
      → test x ≡ true → 1 ≤ count_by test xs
  counted test [] a x at is = absurd (cc)
  counted test (y ∷ ys) zero x at is =
      let weight : X → ℕ = λ z. cond (test z) 1 0 in
      let same : y ≡ x = cc in
      let one : weight y ≡ 1 = ap weight same ∙ ap (λ b. cond b 1 0) is in
      omega (arith, sum_by-cons weight y ys, one)
  counted test (y ∷ ys) (suc a) x at is =
      let weight : X → ℕ = λ z. cond (test z) 1 0 in
      omega (arith, sum_by-cons weight y ys, counted test ys a x at is)

pub in_front : (gs more : List Group) (g : ℕ) → Berthed gs g → Berthed (gs ++ more) g
in_front gs more g b = record {
  group = b.group;
  here = front_here gs more g b.group b.here;
  some = b.some;
}

pub behind : (front gs : List Group) (g k : ℕ) → length front + g ≡ k → Berthed gs g
    → Berthed (front ++ gs) k
behind front gs g k is b = record {
  group = b.group;
  here = behind_here front gs g k b.group is b.here;
  some = b.some;
}

pub executor_berthed : (n : ℕ) → 1 ≤ n → Berthed (executor_groups n) 0
executor_berthed n some =
    let one : Group = record { kind = kind.Remote; cancel = false; berths = n } in
    let is : eqb n 0 ≡ false = grind (arith, nat_tests) in
    subst (λ b. Berthed (cond b [] (one ∷ [])) 0) (sym is)
    (record { group = one; here = refl; some = some })

-- ---- the branches of a planned action

-- those of the action at the same place
pub record Planned (keys : List (List ℕ)) (xs : List ListAction) (a : ℕ) (y : PlanAction)
    : Type 0 where
  pub action : ListAction
  pub here : slice_get xs a ≡ Some action
  pub local : y.local ≡ local_of keys action
  pub remote : y.remote ≡ remote_of keys action

pub planned_at : (keys : List (List ℕ)) (before xs : List ListAction) (a : ℕ) (y : PlanAction)
    → slice_get (plan_actions keys before xs) a ≡ Some y → Planned keys xs a y
planned_at keys before [] a y at = absurd (cc)
planned_at keys before (x ∷ xs) zero y at =
    let same : plan_action keys before x ≡ y = cc in record {
      action = x;
      here = refl;
      local = ap (λ (z : PlanAction). z.local) (sym same);
      remote = ap (λ (z : PlanAction). z.remote) (sym same);
    }
planned_at keys before (x ∷ xs) (suc a) y at =
    let p = planned_at keys (before ++ x ∷ []) xs a y at in
    record { action = p.action; here = p.here; local = p.local; remote = p.remote }

-- ---- the groups of the keys

module _ (xs : List ListAction) (instances : ℕ) where
  abbrev held : List (Option (List ℕ))
  held = map local_key xs

  abbrev each : ℕ
  each = share (map (users held) (keys_of xs)) instances

  abbrev keyed : List Group
  keyed = map (key_group xs held each) (keys_of xs)

  -- a key that an action has has a user, and so a berth
  by_key : 1 ≤ instances → length (keys_of xs) ≤ 48 → (a g : ℕ) (key : Option (List ℕ))
      → slice_get held a ≡ Some key → number_of (keys_of xs) key ≡ Some g → Berthed keyed g
  by_key some few a g None at is = absurd (cc)
  by_key some few a g (Some bytes) at is =
      let place = position-Some (λ key. bytes_eq key bytes) (keys_of xs) g [] is in
      let key = get_or (keys_of xs) g [] in
      let user : 1 ≤ users held key = counted (is_key key) held a (Some bytes) at place.1 in
      let counts = map (users held) (keys_of xs) in
      let as_many : length counts ≤ 48 = omega (arith, length-map (keys_of xs) (users held), few) in
      let shared : 1 ≤ each = shares counts instances some as_many in
      let own : (key_group xs held each key).berths ≡ min each (users held key) =
      berths_by (first_user xs held key) (min each (users held key)) in record {
        group = key_group xs held each key;
        here = slice_get-map (key_group xs held each) (keys_of xs) g
            ∙ ap (λ o. option_map (key_group xs held each) o)
            (slice_get-get_or (keys_of xs) g [] place.0);
        some = omega (arith, own, shared, user);
      }

  pub key_berthed : 1 ≤ instances → length (keys_of xs) ≤ 48 → (a g : ℕ) (x : ListAction)
      → slice_get xs a ≡ Some x → local_of (keys_of xs) x ≡ Some g → Berthed keyed g
  key_berthed some few a g x at is =
      by_key some few a g (local_key x)
      (slice_get-map local_key xs a ∙ ap (λ o. option_map local_key o) at) is

-- ---- the plan of a list

module _ (xs : List ListAction) (instances remote : ℕ) where
  abbrev keys : List (List ℕ)
  keys = keys_of xs

  abbrev executors : List Group
  executors = executor_groups (min remote (remote_users xs))

  abbrev groups : List Group
  groups = groups_of xs (map local_key xs) keys instances remote

  -- the executor stands behind the groups of the keys
  at_executor : 1 ≤ remote → 1 ≤ remote_users xs → Berthed groups (length keys)
  at_executor some user =
      let keyed_length = length-map keys (key_group xs (held xs instances) (each xs instances)) in
      behind (keyed xs instances) executors 0 (length keys) (omega (arith, keyed_length))
      (executor_berthed (min remote (remote_users xs)) (omega (arith, some, user)))

  remote_berthed : 1 ≤ remote → (a g : ℕ) (x : ListAction) → slice_get xs a ≡ Some x
      → remote_of keys x ≡ Some g → Berthed groups g
  remote_berthed some a g x at is = by (has_remote x.strategy) refl is
    where
      by : (b : Bool) → has_remote x.strategy ≡ b → cond b (Some (length keys)) None ≡ Some g
          → Berthed groups g
      by true uses e =
          let same : length keys ≡ g = cc in
          let user = counted (λ (y : ListAction). has_remote y.strategy) xs a x at uses in
          subst (λ n. Berthed groups n) same (at_executor some user)
      by false uses e = absurd (cc)

pub each_has_berth : (o : Options) (xs : List ListAction) → AreInLimits o
    → length (keys_of xs) ≤ 48 → EachHasBerth (plan_by o xs)
unfolding plan_of
each_has_berth o xs limits few a y Local g at is =
    let p = planned_at (keys_of xs) [] xs a y at in
    let executors = executor_groups (min o.remote (remote_users xs)) in
    has_berth (plan_by o xs) g (in_front (keyed xs o.instances) executors g
    (key_berthed xs o.instances limits.instances.0 few a g p.action p.here (sym p.local ∙ is)))
each_has_berth o xs limits few a y Remote g at is =
    let p = planned_at (keys_of xs) [] xs a y at in
    has_berth (plan_by o xs) g
    (remote_berthed xs o.instances o.remote limits.remote.0 a g p.action p.here (sym p.remote ∙ is))

-- ---- what was read

-- each branch has a berth, where the list was read at a path
pub list_is_runnable : (o : Options) (old new : FloorTold) (path : List ℕ) (result : Made)
    → AreInLimits o → Leads old new result (ListRead o path)
    → IfOk result (λ made. EachHasBerth made.0.plan)
list_is_runnable o old new path result limits l =
    list_plan o EachHasBerth (λ xs few. each_has_berth o xs limits few) old new path result l

-- and where it was generated
pub generated_is_runnable : (o : Options) (old new : FloorTold) (actions : ℕ) (result : Made)
    → AreInLimits o → Leads old new result (GeneratedRead o actions)
    → IfOk result (λ made. EachHasBerth made.0.plan)
generated_is_runnable o old new actions result limits l =
    generated_plan o EachHasBerth (λ xs few. each_has_berth o xs limits few) old new actions
    result l
