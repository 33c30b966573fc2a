-- Each action of a plan has a branch, and its branches name different groups.
use Rattle.std.proofs.Common.{◌≡◌, ℕ, suc, ◌+◌, ◌^◌, ◌<◌, ◌≤◌, Bool, true, false, cond, not, ◌||◌, ◌⊎◌, inl, inr, ltb, leb, eqb, List, [], ◌∷◌, ◌++◌, length, map, min, position, Some, None, refl, sym, ap, subst, ◌∙◌, arith, length-append, append_assoc}
use Rattle.std.proofs.lemmas.Bool.{and_from, and_parts, leb-true, lt-ltb, or_left, or_right, cond-true}
use Rattle.std.proofs.lemmas.Bool.Decides.{nat_tests}
use Rattle.std.proofs.lemmas.List.{length-map}
use Rattle.std.proofs.lemmas.List.Sums.{sum_by-append, sum_by-cons}
use Rattle.std.proofs.lemmas.Slice.Eq.{bytes_eq-Decides}
use Rattle.std.specs.List.{list_all, list_any, prefix_len, position_or_len}
use Rattle.std.specs.Str.{bytes_eq}
use Rattle.run_plan.specs.declared.plan.Plan.{Plan}
use Rattle.run_plan.specs.declared.plan.PlanAction.{PlanAction}
use Rattle.run_plan.specs.Sound.{are_sound_from, has_branches, is_sound_action, Sound}
use Rattle.list_actions.specs.declared.types.ListAction.{ListAction}
use Rattle.list_actions.specs.declared.types.Strategy.{Strategy}
use Rattle.list_actions.specs.declared.types.Strategy.TheVariants as strategy
use Rattle.action_list.specs.Checks.{has_local, has_remote}
use Rattle.action_list.specs.Keys.{key_bytes, keys_from, keys_of, with_bytes, with_key}
use Rattle.list_actions.specs.Order.{is_among}
use Rattle.action_list.specs.Plans.{executor_groups, groups_of, key_group, local_key, number_of, plan_action, plan_actions, remote_users, share, users}
use Rattle.list_actions.specs.Whole.{IsWhole}
use Rattle.list_actions.proofs.Late.{is_among-append}
use Rattle.action_list.proofs.SoundGroups.{executor, few_berths, few_keys, length-groups, sound_groups}
use Rattle.action_list.proofs.SoundMakers.{sound_makers}

-- ---- the key of an action is among the keys

itself : (b : List ℕ) → bytes_eq b b ≡ true
itself b = (bytes_eq-Decides b b).1 refl

kept_bytes : (keys : List (List ℕ)) (bytes b : List ℕ) → is_among keys b ≡ true → is_among (with_bytes keys bytes) b ≡ true
kept_bytes keys bytes b h =
    elim (is_among keys bytes) as (λ t. is_among (cond t keys (keys ++ bytes ∷ [])) b ≡ true) [
      | true ↦ h
      | false ↦ is_among-append keys (bytes ∷ []) b ∙ or_left _ _ h
    ]

added_bytes : (keys : List (List ℕ)) (b : List ℕ) → is_among (with_bytes keys b) b ≡ true
added_bytes keys b =
    elim (is_among keys b) as (λ t. is_among keys b ≡ t → is_among (cond t keys (keys ++ b ∷ [])) b ≡ true) [
      | true ↦ (λ e. e)
      | false ↦ (λ e. is_among-append keys (b ∷ []) b ∙ or_right _ _ (or_left _ _ (itself b)))
    ]
    refl

kept_key : (keys : List (List ℕ)) (x : ListAction) (b : List ℕ) → is_among keys b ≡ true → is_among (with_key keys x) b ≡ true
kept_key keys x b h =
    elim (has_local x.strategy) as (λ t. is_among (cond t (with_bytes keys (key_bytes x)) keys) b ≡ true) [ true ↦ kept_bytes keys (key_bytes x) b h | false ↦ h ]

kept : (keys : List (List ℕ)) (xs : List ListAction) (b : List ℕ) → is_among keys b ≡ true → is_among (keys_from keys xs) b ≡ true
kept keys [] b h = h
kept keys (x ∷ xs) b h = kept (with_key keys x) xs b (kept_key keys x b h)

pub own_key : (keys : List (List ℕ)) (before : List ListAction) (x : ListAction) (rest : List ListAction) → has_local x.strategy ≡ true → is_among (keys_from keys (before ++ x ∷ rest)) (key_bytes x) ≡ true
own_key keys [] x rest local =
    let here : is_among (with_key keys x) (key_bytes x) ≡ true =
    subst (λ t. is_among (cond t (with_bytes keys (key_bytes x)) keys) (key_bytes x) ≡ true) (sym local) (added_bytes keys (key_bytes x)) in
    kept (with_key keys x) rest (key_bytes x) here
own_key keys (y ∷ before) x rest local = own_key (with_key keys y) before x rest local

prefix_below : (p : List ℕ → Bool) (ts : List (List ℕ)) → list_any p ts ≡ true → position_or_len p ts < length ts
prefix_below p [] h = cc
prefix_below p (t ∷ ts) h =
    elim (p t) as (λ b. (b || list_any p ts) ≡ true → cond (not b) (1 + prefix_len (λ x. not (p x)) ts) 0 < length (t ∷ ts)) [
      | true ↦ (λ e. omega arith)
      | false ↦ (λ e. let rest = prefix_below p ts e in omega arith)
    ]
    h

-- where the key is among them it has a number
numbered : (keys : List (List ℕ)) (b : List ℕ) → is_among keys b ≡ true → (i : ℕ) × (position (λ key. bytes_eq key b) keys ≡ Some i) × (i < length keys)
numbered keys b h =
    let p : List ℕ → Bool = λ key. bytes_eq key b in
    let below = prefix_below p keys h in
    (position_or_len p keys, cond-true (ltb (position_or_len p keys) (length keys)) _ _ (lt-ltb (position_or_len p keys) (length keys) below), below)

-- ---- the executor is a group where an action may run on it

count_one : (before : List ListAction) (x : ListAction) (rest : List ListAction) → has_remote x.strategy ≡ true → 1 ≤ remote_users (before ++ x ∷ rest)
count_one before x rest remote =
    let weight : Bool → ℕ = λ b. cond b 1 0 in
    let one : weight (has_remote x.strategy) ≡ 1 = ap weight remote in
    omega (arith, sum_by-append (λ y. cond (has_remote y.strategy) 1 0) before (x ∷ rest), sum_by-cons (λ y. cond (has_remote y.strategy) 1 0) x rest, one)

length-one : (n : ℕ) → 1 ≤ n → length (executor_groups n) ≡ 1
length-one n h =
    let some : eqb n 0 ≡ false = grind (arith, nat_tests) in
    subst (λ b. length (cond b [] (executor n ∷ [])) ≡ 1) (sym some) refl

module _ (xs : List ListAction) (instances remote : ℕ) where
  groups_least : length (keys_of xs) ≤ length (groups_of xs (map local_key xs) (keys_of xs) instances remote)
  groups_least =
      let named = map (key_group xs (map local_key xs) (share (map (users (map local_key xs)) (keys_of xs)) instances)) (keys_of xs) in
      omega (arith, length-append named (executor_groups (min remote (remote_users xs))), length-map (keys_of xs) (key_group xs (map local_key xs) (share (map (users (map local_key xs)) (keys_of xs)) instances)))

  groups_with_executor : 1 ≤ remote → 1 ≤ remote_users xs → length (keys_of xs) + 1 ≡ length (groups_of xs (map local_key xs) (keys_of xs) instances remote)
  groups_with_executor some user =
      let named = map (key_group xs (map local_key xs) (share (map (users (map local_key xs)) (keys_of xs)) instances)) (keys_of xs) in
      omega (arith, length-append named (executor_groups (min remote (remote_users xs))), length-map (keys_of xs) (key_group xs (map local_key xs) (share (map (users (map local_key xs)) (keys_of xs)) instances)), length-one (min remote (remote_users xs)) (omega arith))

-- ---- branches

branches_local : (groups keys i : ℕ) (y : PlanAction) → y.local ≡ Some i → y.remote ≡ None → i < keys → keys ≤ groups → has_branches groups y ≡ true
branches_local groups keys i y l r below most = rw (l, r) (and_from _ _ refl (and_from _ _ (and_from _ _ (lt-ltb i groups (omega arith)) refl) refl))

branches_remote : (groups keys : ℕ) (y : PlanAction) → y.local ≡ None → y.remote ≡ Some keys → keys < groups → has_branches groups y ≡ true
branches_remote groups keys y l r most = rw (l, r) (and_from _ _ refl (and_from _ _ (lt-ltb keys groups most) refl))

branches_both : (groups keys i : ℕ) (y : PlanAction) → y.local ≡ Some i → y.remote ≡ Some keys → i < keys → keys < groups → has_branches groups y ≡ true
branches_both groups keys i y l r below most =
    let differ : not (eqb i keys) ≡ true = grind (arith, nat_tests) in
    rw (l, r) (and_from _ _ refl (and_from _ _ (and_from _ _ (lt-ltb i groups (omega arith)) (lt-ltb keys groups most)) differ))

-- a strategy uses the one branch, or the other, or both
uses : (s : Strategy) → ((has_local s ≡ true) × (has_remote s ≡ false)) ⊎ (((has_local s ≡ false) × (has_remote s ≡ true)) ⊎ ((has_local s ≡ true) × (has_remote s ≡ true)))
uses strategy.Worker = inl (refl, refl)
uses strategy.Remote = inr (inl (refl, refl))
uses strategy.Dynamic = inr (inr (refl, refl))

local_number : (keys : List (List ℕ)) (x : ListAction) (i : ℕ) → has_local x.strategy ≡ true → position (λ key. bytes_eq key (key_bytes x)) keys ≡ Some i → number_of keys (local_key x) ≡ Some i
local_number keys x i local at = ap (λ b. number_of keys (cond b (Some (key_bytes x)) None)) local ∙ at

module _ (before : List ListAction) (x : ListAction) (rest : List ListAction) (instances remote : ℕ) (some : 1 ≤ remote) where
  sound_branches : has_branches (length (groups_of (before ++ x ∷ rest) (map local_key (before ++ x ∷ rest)) (keys_of (before ++ x ∷ rest)) instances remote)) (plan_action (keys_of (before ++ x ∷ rest)) before x) ≡ true
  sound_branches =
      let xs = before ++ x ∷ rest in
      let keys = keys_of xs in
      let groups = length (groups_of xs (map local_key xs) keys instances remote) in
      let y = plan_action keys before x in
      elim (uses x.strategy) [
        | inl u ↦
            let n = numbered keys (key_bytes x) (own_key [] before x rest u.0) in
            branches_local groups (length keys) n.0 y (local_number keys x n.0 u.0 n.1) (ap (λ b. cond b (Some (length keys)) None) u.1) n.2 (groups_least xs instances remote)
        | inr v ↦ elim v [
          | inl u ↦
              branches_remote groups (length keys) y (ap (λ b. number_of keys (cond b (Some (key_bytes x)) None)) u.0) (ap (λ b. cond b (Some (length keys)) None) u.1)
              (omega (arith, groups_with_executor xs instances remote some (count_one before x rest u.1)))
          | inr u ↦
              let n = numbered keys (key_bytes x) (own_key [] before x rest u.0) in
              branches_both groups (length keys) n.0 y (local_number keys x n.0 u.0 n.1) (ap (λ b. cond b (Some (length keys)) None) u.1) n.2
              (omega (arith, groups_with_executor xs instances remote some (count_one before x rest u.1)))
        ]
      ]

-- ---- the whole plan

abbrev pub planned : List ListAction → ℕ → ℕ → ℕ → Plan
planned xs instances remote retries = record {
  actions = plan_actions (keys_of xs) [] xs;
  groups = groups_of xs (map local_key xs) (keys_of xs) instances remote;
  limit = retries + 1;
}

sound_action : (before : List ListAction) (x : ListAction) (rest : List ListAction) (instances remote retries : ℕ) → 1 ≤ remote → leb (length x.outputs) 256 ≡ true
    → is_sound_action (planned (before ++ x ∷ rest) instances remote retries) (length before) (plan_action (keys_of (before ++ x ∷ rest)) before x) ≡ true
sound_action before x rest instances remote retries some few =
    let xs = before ++ x ∷ rest in
    let most = leb-true (length x.outputs) 256 few in
    and_from _ _ (lt-ltb (length x.outputs) (2 ^ 32) (omega arith))
    (and_from _ _ (sound_branches before x rest instances remote some) (sound_makers (keys_of xs) before (x ∷ rest) x.inputs))

sound_from : (xs before rest : List ListAction) (instances remote retries : ℕ) → xs ≡ before ++ rest → 1 ≤ remote → list_all (λ x. leb (length x.outputs) 256) rest ≡ true
    → are_sound_from (planned xs instances remote retries) (length before) (plan_actions (keys_of xs) before rest) ≡ true
sound_from xs before [] instances remote retries e some few = refl
sound_from xs before (x ∷ rest) instances remote retries e some few =
    let parts = and_parts (leb (length x.outputs) 256) (list_all (λ y. leb (length y.outputs) 256) rest) few in
    let here : is_sound_action (planned xs instances remote retries) (length before) (plan_action (keys_of xs) before x) ≡ true =
    subst (λ ys. is_sound_action (planned ys instances remote retries) (length before) (plan_action (keys_of ys) before x) ≡ true) (sym e)
    (sound_action before x rest instances remote retries some parts.0) in
    let on : xs ≡ (before ++ x ∷ []) ++ rest = e ∙ sym (append_assoc before (x ∷ []) rest) in
    let count : length (before ++ x ∷ []) ≡ suc (length before) = omega (arith, length-append before (x ∷ [])) in
    let later : are_sound_from (planned xs instances remote retries) (suc (length before)) (plan_actions (keys_of xs) (before ++ x ∷ []) rest) ≡ true =
    subst (λ n. are_sound_from (planned xs instances remote retries) n (plan_actions (keys_of xs) (before ++ x ∷ []) rest) ≡ true) count
    (sound_from xs (before ++ x ∷ []) rest instances remote retries on some parts.1) in
    and_from _ _ here later

length-plan_actions : (keys : List (List ℕ)) (before xs : List ListAction) → length (plan_actions keys before xs) ≡ length xs
length-plan_actions keys before [] = refl
length-plan_actions keys before (x ∷ xs) = let rest = length-plan_actions keys (before ++ x ∷ []) xs in omega arith

pub sound_plan : (xs : List ListAction) (instances remote retries : ℕ) → IsWhole xs → 1 ≤ remote → remote ≤ 16 → retries ≤ 9 → Sound (planned xs instances remote retries)
sound_plan xs instances remote retries whole some few low = record {
  least = omega arith;
  most = omega arith;
  actions = omega (arith, length-plan_actions (keys_of xs) [] xs, whole.few);
  seats = few_berths xs (map local_key xs) (keys_of xs) instances remote few;
  groups = omega (arith, length-groups xs (map local_key xs) (keys_of xs) instances remote, few_keys xs, whole.few);
  each_group = sound_groups xs (map local_key xs) (keys_of xs) instances remote;
  each_action = sound_from xs [] xs instances remote retries refl some whole.few_outputs;
}
