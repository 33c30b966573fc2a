-- The plan of the chosen strategies is sound.
use Rattle.std.proofs.Common.{◌≡◌, ℕ, suc, ◌+◌, ◌^◌, ◌<◌, ◌≤◌, Bool, true, false, cond, not, ◌||◌, ltb, leb, eqb, nat_eq, List, [], ◌∷◌, ◌++◌, length, map, min, position, sum_by, Option, Some, None, Result, Ok, Err, IfOk, refl, sym, ap, subst, ◌∙◌, arith, length-append, append_assoc}
use Rattle.std.specs.Prelude.{count_by}
use Rattle.std.proofs.lemmas.Bool.{and_from, and_parts, leb-true, lt-ltb, cond-true}
use Rattle.std.proofs.lemmas.Bool.Decides.{nat_tests}
use Rattle.std.proofs.lemmas.List.{length-map, map-append}
use Rattle.std.proofs.lemmas.List.Folds.{list_all-append}
use Rattle.std.proofs.lemmas.List.Sums.{sum_by-append, sum_by-cons}
use Rattle.std.specs.List.{list_all, list_any, prefix_len, position_or_len}
use Rattle.std.specs.Str.{bytes_eq}
use Rattle.run_plan.specs.declared.plan.Plan.{Plan}
use Rattle.run_plan.specs.declared.plan.PlanAction.{PlanAction}
use Rattle.run_plan.specs.Sound.{Sound, are_sound_from, has_branches, is_earlier, is_sound_action, is_sound_group}
use Rattle.worker_key.specs.declared.key.Mode.{Mode}
use Rattle.worker_key.specs.declared.key.Mode.TheVariants as mode
use Rattle.list_actions.specs.declared.types.ListAction.{ListAction}
use Rattle.list_actions.specs.Order.{is_among}
use Rattle.list_actions.specs.Whole.{IsWhole}
use Rattle.action_list.specs.Checks.{has_local, has_remote}
use Rattle.action_list.specs.Keys.{key_bytes, keys_of, mode_of}
use Rattle.action_list.specs.Plans.{berths_at, executor_groups, group_by, key_group, kind_by, local_key, number_of, plan_action, plan_actions, share, users}
use Rattle.action_list.proofs.SoundActions.{own_key}
use Rattle.action_list.proofs.SoundGroups.{executor, share_fits}
use Rattle.action_list.proofs.SoundMakers.{sound_makers}
use Rattle.spawn_strategies.specs.declared.types.ChoiceFault.{ChoiceFault}
use Rattle.spawn_strategies.specs.declared.types.Name.{Name}
use Rattle.spawn_strategies.specs.declared.types.Name.TheVariants as name
use Rattle.spawn_strategies.specs.declared.types.PlanLimits.{PlanLimits}
use Rattle.spawn_strategies.specs.declared.types.Strategies.{Strategies}
use Rattle.spawn_strategies.specs.Choices.{Answers, AreLimits, all_placed, choice_of, chosen_actions, chosen_names, first_unsupported, groups_by, is_sandboxed, key_groups, name_of, placed, plan_by, remote_groups, sandbox_groups, sandboxes, strategy_by, uses_executor, with_name}
use Rattle.spawn_strategies.proofs.Placed.{all_earlier, length-all_placed, makers_kept, outputs_kept}
use Rattle.spawn_strategies.proofs.Plans.{answered, length-key_groups, length-plan_actions}
use Rattle.spawn_strategies.proofs.Sandboxed.{few_sandboxes}

-- ---- groups of executors

-- so many groups where there are such berths
length-one : (n : ℕ) → 1 ≤ n → length (executor_groups n) ≡ 1
length-one n h =
    let some : eqb n 0 ≡ false = grind (arith, nat_tests) in
    subst (λ b. length (cond b [] (executor n ∷ [])) ≡ 1) (sym some) refl

length-most : (n : ℕ) → length (executor_groups n) ≤ 1
length-most n = elim (nat_eq n 0) as (λ b. length (cond b [] (executor n ∷ [])) ≤ 1) [ true ↦ omega arith | false ↦ omega arith ]

berths-executor : (n : ℕ) → sum_by (λ g. g.berths) (executor_groups n) ≤ n
berths-executor n =
    elim (nat_eq n 0) as (λ b. sum_by (λ g. g.berths) (cond b [] (executor n ∷ [])) ≤ n) [ true ↦ omega arith | false ↦ omega arith ]

sound-executor : (n : ℕ) → list_all is_sound_group (executor_groups n) ≡ true
sound-executor n = elim (nat_eq n 0) as (λ b. list_all is_sound_group (cond b [] (executor n ∷ [])) ≡ true) [ true ↦ refl | false ↦ refl ]

-- ---- groups of keys

berths-group_by : (o : Option ListAction) (n : ℕ) → (group_by o n).berths ≡ n
berths-group_by None n = refl
berths-group_by (Some x) n = refl

key_berths : (xs : List ListAction) (held : List (Option (List ℕ))) (n : ℕ) (keys : List (List ℕ)) → sum_by (λ g. g.berths) (map (key_group xs held n) keys) ≡ berths_at (map (users held) keys) n
key_berths xs held n [] = refl
key_berths xs held n (key ∷ keys) =
    sum_by-cons (λ g. g.berths) (key_group xs held n key) (map (key_group xs held n) keys)
    ∙ ap (λ b. b + sum_by (λ g. g.berths) (map (key_group xs held n) keys)) (berths-group_by _ (min n (users held key)))
    ∙ ap (λ s. min n (users held key) + s) (key_berths xs held n keys)
    ∙ sym (sum_by-cons (λ count. min n count) (users held key) (map (users held) keys))

sound_kind : (m : Mode) (cancel : Bool) (n : ℕ)
    → is_sound_group (record { kind = kind_by m; cancel = cancel; berths = n }) ≡ true
sound_kind mode.Single cancel n = refl
sound_kind mode.Multi cancel n = refl
sound_kind mode.Boxed cancel n = refl

sound_by : (o : Option ListAction) (n : ℕ) → is_sound_group (group_by o n) ≡ true
sound_by None n = refl
sound_by (Some x) n = sound_kind (mode_of x) x.needs.cancel n

sound_keys : (xs : List ListAction) (held : List (Option (List ℕ))) (n : ℕ) (keys : List (List ℕ)) → list_all is_sound_group (map (key_group xs held n) keys) ≡ true
sound_keys xs held n [] = refl
sound_keys xs held n (key ∷ keys) = and_from _ _ (sound_by _ (min n (users held key))) (sound_keys xs held n keys)

-- ---- all groups

module _ (ys : List ListAction) (ns : List Name) (instances sandboxed remote : ℕ) where
  few_berths : min sandboxed (count_by is_sandboxed ns) + remote ≤ 16 → sum_by (λ g. g.berths) (groups_by (key_groups ys instances) ns sandboxed remote) ≤ 64
  few_berths few =
      let held = map local_key ys in
      let counts = map (users held) (keys_of ys) in
      omega (
        arith,
        sum_by-append (λ g. g.berths) (key_groups ys instances) (sandbox_groups sandboxed ns ++ remote_groups remote ns),
        sum_by-append (λ g. g.berths) (sandbox_groups sandboxed ns) (remote_groups remote ns),
        key_berths ys held (share counts instances) (keys_of ys),
        share_fits counts instances,
        berths-executor (min sandboxed (count_by is_sandboxed ns)),
        berths-executor (min remote (count_by uses_executor ns)),
      )

  sound_groups : list_all is_sound_group (groups_by (key_groups ys instances) ns sandboxed remote) ≡ true
  sound_groups =
      list_all-append is_sound_group (key_groups ys instances) (sandbox_groups sandboxed ns ++ remote_groups remote ns)
      ∙ and_from _ _ (sound_keys ys (map local_key ys) (share (map (users (map local_key ys)) (keys_of ys)) instances) (keys_of ys))
      (list_all-append is_sound_group (sandbox_groups sandboxed ns) (remote_groups remote ns)
      ∙ and_from _ _ (sound-executor (min sandboxed (count_by is_sandboxed ns))) (sound-executor (min remote (count_by uses_executor ns))))

  length-groups : length (groups_by (key_groups ys instances) ns sandboxed remote)
      ≡ length (keys_of ys) + (length (sandbox_groups sandboxed ns) + length (remote_groups remote ns))
  length-groups =
      omega (
        arith,
        length-append (key_groups ys instances) (sandbox_groups sandboxed ns ++ remote_groups remote ns),
        length-append (sandbox_groups sandboxed ns) (remote_groups remote ns),
        length-key_groups ys instances,
      )

-- ---- the branches of an action

prefix_below : (p : List ℕ → Bool) (ts : List (List ℕ)) → list_any p ts ≡ true → position_or_len p ts < length ts
prefix_below p [] h = cc
prefix_below p (t ∷ ts) h =
    elim (p t) as (λ b. (b || list_any p ts) ≡ true → cond (not b) (1 + prefix_len (λ x. not (p x)) ts) 0 < length (t ∷ ts)) [
      | true ↦ (λ e. omega arith)
      | false ↦ (λ e. let rest = prefix_below p ts e in omega arith)
    ]
    h

-- where the key is among them it has a number
numbered : (keys : List (List ℕ)) (b : List ℕ) → is_among keys b ≡ true → (i : ℕ) × (position (λ key. bytes_eq key b) keys ≡ Some i) × (i < length keys)
numbered keys b h =
    let p : List ℕ → Bool = λ key. bytes_eq key b in
    let below = prefix_below p keys h in
    (position_or_len p keys, cond-true (ltb (position_or_len p keys) (length keys)) _ _ (lt-ltb (position_or_len p keys) (length keys) below), below)

-- what a name has to have: a key where it has a worker, and a group for what else it uses
abbrev HasGroups : ℕ → ℕ → ℕ → Name → PlanAction → Type 0
HasGroups groups sandbox executor name.Worker y = (i : ℕ) × (y.local ≡ Some i) × (y.remote ≡ None) × (i < groups)
HasGroups groups sandbox executor name.Sandboxed y = sandbox < groups
HasGroups groups sandbox executor name.Remote y = (y.local ≡ None) × (executor < groups)
HasGroups groups sandbox executor name.Dynamic y = (i : ℕ) × (y.local ≡ Some i) × (i < executor) × (executor < groups)

branches : (groups sandbox executor : ℕ) (n : Name) (y : PlanAction) → HasGroups groups sandbox executor n y → has_branches groups (placed sandbox executor n y) ≡ true
branches groups sandbox executor name.Worker y h =
    rw (h.1, h.2) (and_from _ _ refl (and_from _ _ (and_from _ _ (lt-ltb h.0 groups h.3) refl) refl))
branches groups sandbox executor name.Sandboxed y h = and_from _ _ refl (and_from _ _ (and_from _ _ (lt-ltb sandbox groups h) refl) refl)
branches groups sandbox executor name.Remote y h = rw h.0 (and_from _ _ refl (and_from _ _ (and_from _ _ refl (lt-ltb executor groups h.1)) refl))
branches groups sandbox executor name.Dynamic y h =
    let less = h.2 in
    let i = h.0 in
    let differ : not (eqb i executor) ≡ true = grind (arith, nat_tests) in
    let below : i < groups = let all = h.3 in omega arith in
    rw h.1 (and_from _ _ refl (and_from _ _ (and_from _ _ (lt-ltb i groups below) (lt-ltb executor groups h.3)) differ))

-- one of the names passes
counted : (p : Name → Bool) (before : List Name) (n : Name) (rest : List Name) → p n ≡ true → 1 ≤ count_by p (before ++ n ∷ rest)
counted p before n rest passes =
    let weight : Bool → ℕ = λ b. cond b 1 0 in
    let one : weight (p n) ≡ 1 = ap weight passes in
    omega (arith, sum_by-append (λ m. cond (p m) 1 0) before (n ∷ rest), sum_by-cons (λ m. cond (p m) 1 0) n rest, one)

-- ---- each action

has_groups : (ybefore : List ListAction) (y : ListAction) (yrest : List ListAction) (nbefore : List Name) (n : Name) (nrest : List Name)
    (instances sandboxed remote : ℕ) → 1 ≤ sandboxed → 1 ≤ remote → y.strategy ≡ strategy_by n
    → HasGroups (length (groups_by (key_groups (ybefore ++ y ∷ yrest) instances) (nbefore ++ n ∷ nrest) sandboxed remote))
    (length (keys_of (ybefore ++ y ∷ yrest))) (length (keys_of (ybefore ++ y ∷ yrest)) + length (sandbox_groups sandboxed (nbefore ++ n ∷ nrest)))
    n (plan_action (keys_of (ybefore ++ y ∷ yrest)) ybefore y)
has_groups ybefore y yrest nbefore name.Worker nrest instances sandboxed remote some_s some_r is =
    let ys = ybefore ++ y ∷ yrest in
    let ns = nbefore ++ name.Worker ∷ nrest in
    let key = numbered (keys_of ys) (key_bytes y) (own_key [] ybefore y yrest (ap has_local is)) in
    let below = key.2 in (
      key.0,
      ap (λ b. number_of (keys_of ys) (cond b (Some (key_bytes y)) None)) (ap has_local is) ∙ key.1,
      ap (λ s. cond (has_remote s) (Some (length (keys_of ys))) None) is,
      omega (arith, length-groups ys ns instances sandboxed remote, below),
    )
has_groups ybefore y yrest nbefore name.Sandboxed nrest instances sandboxed remote some_s some_r is =
    let ys = ybefore ++ y ∷ yrest in
    let ns = nbefore ++ name.Sandboxed ∷ nrest in
    let one = counted is_sandboxed nbefore name.Sandboxed nrest refl in
    omega (arith, length-groups ys ns instances sandboxed remote, length-one (min sandboxed (count_by is_sandboxed ns)) (omega arith))
has_groups ybefore y yrest nbefore name.Remote nrest instances sandboxed remote some_s some_r is =
    let ys = ybefore ++ y ∷ yrest in
    let ns = nbefore ++ name.Remote ∷ nrest in
    let one = counted uses_executor nbefore name.Remote nrest refl in (
      ap (λ s. number_of (keys_of ys) (cond (has_local s) (Some (key_bytes y)) None)) is,
      omega (arith, length-groups ys ns instances sandboxed remote, length-one (min remote (count_by uses_executor ns)) (omega arith)),
    )
has_groups ybefore y yrest nbefore name.Dynamic nrest instances sandboxed remote some_s some_r is =
    let ys = ybefore ++ y ∷ yrest in
    let ns = nbefore ++ name.Dynamic ∷ nrest in
    let one = counted uses_executor nbefore name.Dynamic nrest refl in
    let key = numbered (keys_of ys) (key_bytes y) (own_key [] ybefore y yrest (ap has_local is)) in
    let below = key.2 in (
      key.0,
      ap (λ b. number_of (keys_of ys) (cond b (Some (key_bytes y)) None)) (ap has_local is) ∙ key.1,
      omega (arith, below),
      omega (arith, length-groups ys ns instances sandboxed remote, length-one (min remote (count_by uses_executor ns)) (omega arith)),
    )

-- ---- the whole plan

module _ (f : ListAction → Name) (instances sandboxed remote retries : ℕ) (some_s : 1 ≤ sandboxed) (some_r : 1 ≤ remote) where
  sound_action : (before : List ListAction) (x : ListAction) (rest : List ListAction) → leb (length x.outputs) 256 ≡ true
      → (ys : List ListAction) → ys ≡ map (λ z. with_name (f z) z) before ++ with_name (f x) x ∷ map (λ z. with_name (f z) z) rest
      → (ns : List Name) → ns ≡ map f before ++ f x ∷ map f rest
      → is_sound_action (plan_by ys ns instances sandboxed remote retries) (length before)
      (placed (length (keys_of ys)) (length (keys_of ys) + length (sandbox_groups sandboxed ns)) (f x)
      (plan_action (keys_of ys) (map (λ z. with_name (f z) z) before) (with_name (f x) x))) ≡ true
  sound_action before x rest few ys is ns named =
      let g : ListAction → ListAction = λ z. with_name (f z) z in
      let sandbox = length (keys_of ys) in
      let executor = sandbox + length (sandbox_groups sandboxed ns) in
      let y = plan_action (keys_of ys) (map g before) (g x) in
      let most = leb-true (length x.outputs) 256 few in
      let outputs : length (placed sandbox executor (f x) y).outputs ≡ length x.outputs = ap length (outputs_kept sandbox executor (f x) y) in
      let groups : HasGroups (length (groups_by (key_groups ys instances) ns sandboxed remote)) sandbox executor (f x) y =
      subst (λ zs. HasGroups (length (groups_by (key_groups zs instances) ns sandboxed remote)) (length (keys_of zs))
      (length (keys_of zs) + length (sandbox_groups sandboxed ns)) (f x) (plan_action (keys_of zs) (map g before) (g x))) (sym is)
      (subst (λ ms. HasGroups (length (groups_by (key_groups (map g before ++ g x ∷ map g rest) instances) ms sandboxed remote)) (length (keys_of (map g before ++ g x ∷ map g rest)))
      (length (keys_of (map g before ++ g x ∷ map g rest)) + length (sandbox_groups sandboxed ms)) (f x) (plan_action (keys_of (map g before ++ g x ∷ map g rest)) (map g before) (g x))) (sym named)
      (has_groups (map g before) (g x) (map g rest) (map f before) (f x) (map f rest) instances sandboxed remote some_s some_r refl)) in
      let makers : list_all (is_earlier (plan_actions (keys_of ys) [] ys) (length before)) y.makers ≡ true =
      subst (λ zs. list_all (is_earlier (plan_actions (keys_of ys) [] zs) (length before)) y.makers ≡ true) (sym is)
      (subst (λ a. list_all (is_earlier (plan_actions (keys_of ys) [] (map g before ++ g x ∷ map g rest)) a) y.makers ≡ true) (length-map before g)
      (sound_makers (keys_of ys) (map g before) (g x ∷ map g rest) x.inputs)) in
      and_from _ _ (lt-ltb (length (placed sandbox executor (f x) y).outputs) (2 ^ 32) (omega (arith, outputs, most)))
      (and_from _ _ (branches _ sandbox executor (f x) y groups)
      (ap (λ ms. list_all (is_earlier (all_placed sandbox executor ns (plan_actions (keys_of ys) [] ys)) (length before)) ms) (makers_kept sandbox executor (f x) y)
      ∙ all_earlier sandbox executor ns (plan_actions (keys_of ys) [] ys) (length before) y.makers ∙ makers))

  sound_from : (before rest : List ListAction) → list_all (λ x. leb (length x.outputs) 256) rest ≡ true
      → (ys : List ListAction) → ys ≡ map (λ z. with_name (f z) z) before ++ map (λ z. with_name (f z) z) rest
      → (ns : List Name) → ns ≡ map f before ++ map f rest
      → are_sound_from (plan_by ys ns instances sandboxed remote retries) (length before)
      (all_placed (length (keys_of ys)) (length (keys_of ys) + length (sandbox_groups sandboxed ns)) (map f rest)
      (plan_actions (keys_of ys) (map (λ z. with_name (f z) z) before) (map (λ z. with_name (f z) z) rest))) ≡ true
  sound_from before [] few ys is ns named = refl
  sound_from before (x ∷ rest) few ys is ns named =
      let g : ListAction → ListAction = λ z. with_name (f z) z in
      let sandbox = length (keys_of ys) in
      let executor = sandbox + length (sandbox_groups sandboxed ns) in
      let parts = and_parts (leb (length x.outputs) 256) (list_all (λ y. leb (length y.outputs) 256) rest) few in
      let on : ys ≡ map g (before ++ x ∷ []) ++ map g rest =
      is ∙ sym (append_assoc (map g before) (g x ∷ []) (map g rest)) ∙ ap (λ zs. zs ++ map g rest) (sym (map-append g before (x ∷ []))) in
      let names : ns ≡ map f (before ++ x ∷ []) ++ map f rest =
      named ∙ sym (append_assoc (map f before) (f x ∷ []) (map f rest)) ∙ ap (λ ms. ms ++ map f rest) (sym (map-append f before (x ∷ []))) in
      let count : length (before ++ x ∷ []) ≡ suc (length before) = omega (arith, length-append before (x ∷ [])) in
      let front : map g (before ++ x ∷ []) ≡ map g before ++ g x ∷ [] = map-append g before (x ∷ []) in
      let later : are_sound_from (plan_by ys ns instances sandboxed remote retries) (suc (length before))
      (all_placed sandbox executor (map f rest) (plan_actions (keys_of ys) (map g before ++ g x ∷ []) (map g rest))) ≡ true =
      subst (λ a. are_sound_from (plan_by ys ns instances sandboxed remote retries) a
      (all_placed sandbox executor (map f rest) (plan_actions (keys_of ys) (map g before ++ g x ∷ []) (map g rest))) ≡ true) count
      (subst (λ zs. are_sound_from (plan_by ys ns instances sandboxed remote retries) (length (before ++ x ∷ []))
      (all_placed sandbox executor (map f rest) (plan_actions (keys_of ys) zs (map g rest))) ≡ true) front
      (sound_from (before ++ x ∷ []) rest parts.1 ys on ns names)) in
      and_from _ _ (sound_action before x rest parts.0 ys is ns named) later

  sound_plan : (xs : List ListAction) → IsWhole xs → min sandboxed (count_by is_sandboxed (map f xs)) + remote ≤ 16 → retries ≤ 9
      → length (keys_of (map (λ z. with_name (f z) z) xs)) ≤ 4096
      → Sound (plan_by (map (λ z. with_name (f z) z) xs) (map f xs) instances sandboxed remote retries)
  sound_plan xs whole few low keys =
      let ys = map (λ z. with_name (f z) z) xs in
      let ns = map f xs in
      let few_actions = whole.few in
      record {
        least = omega arith;
        most = omega arith;
        actions = omega (
          arith,
          length-all_placed (length (keys_of ys)) (length (keys_of ys) + length (sandbox_groups sandboxed ns)) ns (plan_actions (keys_of ys) [] ys),
          length-plan_actions (keys_of ys) [] ys,
          length-map xs (λ z. with_name (f z) z),
          few_actions,
        );
        seats = few_berths ys ns instances sandboxed remote few;
        groups = omega (arith, length-groups ys ns instances sandboxed remote, length-most (min sandboxed (count_by is_sandboxed ns)), length-most (min remote (count_by uses_executor ns)), keys);
        each_group = sound_groups ys ns instances sandboxed remote;
        each_action = sound_from [] xs whole.few_outputs ys refl ns refl;
      }

pub sound_answer : (xs : List ListAction) (words : Strategies) (l : PlanLimits) (r : Result Plan ChoiceFault)
    → 1 ≤ words.sandboxed → sandboxes words + l.remote ≤ 16 → AreLimits l → IsWhole xs
    → Answers r (choice_of xs words l) → IfOk r Sound
unfolding choice_of
sound_answer xs words l (Err e) some few limits whole h = tt
sound_answer xs words l (Ok p) some few limits whole h =
    let due = plan_by (chosen_actions words xs) (chosen_names words xs) l.instances words.sandboxed l.remote l.retries in
    let is = answered (first_unsupported words xs) l.keys (length (keys_of (chosen_actions words xs))) due p h in
    let keys = is.0 in
    let most = limits.keys in
    let used = few_sandboxes words xs in
    subst Sound is.1
    (sound_plan (name_of words) l.instances words.sandboxed l.remote l.retries some limits.remote xs whole
    (omega (arith, few, used)) limits.retries (omega (arith, keys, most)))
