-- The groups of a plan have at most 64 berths, and no executor has cancellation.
use Rattle.std.proofs.Common.{◌≡◌, ℕ, zero, suc, ◌+◌, ◌≤◌, ◌<◌, Bool, true, false, cond, nat_eq, List, [], ◌∷◌, ◌++◌, length, map, sum_by, min, leb, Option, Some, None, refl, sym, subst, ap, ◌∙◌, arith, length-append}
use Rattle.std.proofs.lemmas.Bool.{and_from, le-leb, leb-true, leb-false}
use Rattle.std.proofs.lemmas.List.{length-map}
use Rattle.std.proofs.lemmas.List.Folds.{list_all-append}
use Rattle.std.proofs.lemmas.List.Sums.{sum_by-append, sum_by-cons}
use Rattle.std.specs.List.{list_all}
use Rattle.run_plan.specs.declared.plan.Group.{Group}
use Rattle.run_plan.specs.declared.plan.Kind.TheVariants as kind
use Rattle.run_plan.specs.Sound.{is_sound_group}
use Rattle.worker_key.specs.declared.key.Mode.{Mode}
use Rattle.worker_key.specs.declared.key.Mode.TheVariants as mode
use Rattle.list_actions.specs.declared.types.ListAction.{ListAction}
use Rattle.action_list.specs.Checks.{has_local}
use Rattle.action_list.specs.Keys.{key_bytes, keys_from, keys_of, mode_of, with_bytes, with_key}
use Rattle.list_actions.specs.Order.{is_among}
use Rattle.action_list.specs.Plans.{AreFew, IsGreatest, berths_at, executor_groups, group_by, groups_of, key_group, kind_by, remote_users, share, users}

-- ---- how many keys there are

length-with_bytes : (keys : List (List ℕ)) (bytes : List ℕ) → length (with_bytes keys bytes) ≤ length keys + 1
length-with_bytes keys bytes =
    elim (is_among keys bytes) as (λ b. length (cond b keys (keys ++ bytes ∷ [])) ≤ length keys + 1) [
      | true ↦ omega arith
      | false ↦ omega (arith, length-append keys (bytes ∷ []))
    ]

length-with_key : (keys : List (List ℕ)) (x : ListAction) → length (with_key keys x) ≤ length keys + 1
length-with_key keys x =
    elim (has_local x.strategy) as (λ b. length (cond b (with_bytes keys (key_bytes x)) keys) ≤ length keys + 1) [ true ↦ length-with_bytes keys (key_bytes x) | false ↦ omega arith ]

length-keys_from : (keys : List (List ℕ)) (xs : List ListAction) → length (keys_from keys xs) ≤ length keys + length xs
length-keys_from keys [] = omega arith
length-keys_from keys (x ∷ xs) = omega (arith, length-keys_from (with_key keys x) xs, length-with_key keys x)

pub few_keys : (xs : List ListAction) → length (keys_of xs) ≤ length xs
few_keys xs = omega (arith, length-keys_from [] xs)

abbrev pub executor : ℕ → Group
executor n = record { kind = kind.Remote; cancel = false; berths = n }

length-executor : (n : ℕ) → length (executor_groups n) ≤ 1
length-executor n = elim (nat_eq n 0) as (λ b. length (cond b [] (executor n ∷ [])) ≤ 1) [ true ↦ omega arith | false ↦ omega arith ]

module _ (xs : List ListAction) (held : List (Option (List ℕ))) (keys : List (List ℕ)) (instances remote : ℕ) where
  pub length-groups : length (groups_of xs held keys instances remote) ≤ length keys + 1
  length-groups =
      let each = share (map (users held) keys) instances in
      let named = map (key_group xs held each) keys in
      let last = executor_groups (min remote (remote_users xs)) in
      omega (arith, length-append named last, length-map keys (key_group xs held each), length-executor (min remote (remote_users xs)))

-- ---- berths

berths-group_by : (o : Option ListAction) (n : ℕ) → (group_by o n).berths ≡ n
berths-group_by None n = refl
berths-group_by (Some x) n = refl

key_berths : (xs : List ListAction) (held : List (Option (List ℕ))) (n : ℕ) (keys : List (List ℕ)) → sum_by (λ g. g.berths) (map (key_group xs held n) keys) ≡ berths_at (map (users held) keys) n
key_berths xs held n [] = refl
key_berths xs held n (key ∷ keys) =
    sum_by-cons (λ g. g.berths) (key_group xs held n key) (map (key_group xs held n) keys)
    ∙ ap (λ b. b + sum_by (λ g. g.berths) (map (key_group xs held n) keys)) (berths-group_by _ (min n (users held key)))
    ∙ ap (λ s. min n (users held key) + s) (key_berths xs held n keys)
    ∙ sym (sum_by-cons (λ count. min n count) (users held key) (map (users held) keys))

pub no_berths : (counts : List ℕ) → berths_at counts 0 ≡ 0
no_berths [] = refl
no_berths (count ∷ counts) = let rest = no_berths counts in omega (arith, sum_by-cons (λ c. min 0 c) count counts)

pub share_fits : (counts : List ℕ) (n : ℕ) → berths_at counts (share counts n) ≤ 48
share_fits counts zero = omega (arith, no_berths counts)
share_fits counts (suc n) =
    elim (leb (berths_at counts (suc n)) 48)
    as (λ b. leb (berths_at counts (suc n)) 48 ≡ b → berths_at counts (cond b (suc n) (share counts n)) ≤ 48)
    [ true ↦ (λ e. leb-true (berths_at counts (suc n)) 48 e) | false ↦ (λ e. share_fits counts n) ]
    refl

share_within : (counts : List ℕ) (n : ℕ) → share counts n ≤ n
share_within counts zero = omega arith
share_within counts (suc n) =
    elim (leb (berths_at counts (suc n)) 48) as (λ b. cond b (suc n) (share counts n) ≤ suc n)
    [ true ↦ omega arith | false ↦ (let less = share_within counts n in omega arith) ]

none_above : (counts : List ℕ) (n m : ℕ) → share counts n < m → m ≤ n → AreFew counts m → ⊥
none_above counts zero m above most few = absurd (omega (arith, above, most))
none_above counts (suc n) m above most few =
    elim (leb (berths_at counts (suc n)) 48)
    as (λ b. leb (berths_at counts (suc n)) 48 ≡ b → cond b (suc n) (share counts n) < m → ⊥) [
      | true ↦ (λ e lt. absurd (omega (arith, lt, most)))
      | false ↦ (λ e lt. let many = leb-false (berths_at counts (suc n)) 48 e in
          elim (leb m n) as (λ b. leb m n ≡ b → ⊥) [
            | true ↦ (λ less. none_above counts n m lt (leb-true m n less) few)
            | false ↦ (λ more. let past = leb-false m n more in
                let same : m ≡ suc n = omega (arith, past, most) in
                let here = ap (berths_at counts) same in
                absurd (omega (arith, few, many, here)))
          ] refl)
    ] refl above

pub share_is_greatest : (counts : List ℕ) (n : ℕ) → IsGreatest (AreFew counts) n (share counts n)
share_is_greatest counts n = record {
  within = share_within counts n;
  holds = share_fits counts n;
  none_above = λ m above most few. none_above counts n m above most few;
}

few_is_share : (counts : List ℕ) (n : ℕ) → berths_at counts n ≤ 48 → share counts n ≡ n
few_is_share counts zero few = refl
few_is_share counts (suc n) few =
    ap (λ b. cond b (suc n) (share counts n)) (le-leb (berths_at counts (suc n)) 48 few)

-- where the share of so many is that of fewer, and those are few, they are the greatest number
pub greatest_by : (counts : List ℕ) (most n : ℕ) → share counts most ≡ share counts n
    → berths_at counts n ≤ 48 → IsGreatest (AreFew counts) most n
greatest_by counts most n same few =
    subst (λ k. IsGreatest (AreFew counts) most k) (same ∙ few_is_share counts n few)
    (share_is_greatest counts most)

executor_berths : (n : ℕ) → sum_by (λ g. g.berths) (executor_groups n) ≤ n
executor_berths n =
    elim (nat_eq n 0) as (λ b. sum_by (λ g. g.berths) (cond b [] (executor n ∷ [])) ≤ n) [ true ↦ omega arith | false ↦ omega arith ]

pub few_berths : (xs : List ListAction) (held : List (Option (List ℕ))) (keys : List (List ℕ)) (instances remote : ℕ) → remote ≤ 16
    → sum_by (λ g. g.berths) (groups_of xs held keys instances remote) ≤ 64
few_berths xs held keys instances remote few =
    let each = share (map (users held) keys) instances in
    let named = map (key_group xs held each) keys in
    let last = executor_groups (min remote (remote_users xs)) in
    omega (arith, sum_by-append (λ g. g.berths) named last, key_berths xs held each keys, share_fits (map (users held) keys) instances, executor_berths (min remote (remote_users xs)))

-- ---- no executor with cancellation

sound_kind : (m : Mode) (cancel : Bool) (n : ℕ)
    → is_sound_group (record { kind = kind_by m; cancel = cancel; berths = n }) ≡ true
sound_kind mode.Single cancel n = refl
sound_kind mode.Multi cancel n = refl
sound_kind mode.Boxed cancel n = refl

sound_by : (o : Option ListAction) (n : ℕ) → is_sound_group (group_by o n) ≡ true
sound_by None n = refl
sound_by (Some x) n = sound_kind (mode_of x) x.needs.cancel n

sound_keys : (xs : List ListAction) (held : List (Option (List ℕ))) (n : ℕ) (keys : List (List ℕ)) → list_all is_sound_group (map (key_group xs held n) keys) ≡ true
sound_keys xs held n [] = refl
sound_keys xs held n (key ∷ keys) = and_from _ _ (sound_by _ (min n (users held key))) (sound_keys xs held n keys)

sound_executor : (n : ℕ) → list_all is_sound_group (executor_groups n) ≡ true
sound_executor n =
    elim (nat_eq n 0) as (λ b. list_all is_sound_group (cond b [] (executor n ∷ [])) ≡ true) [ true ↦ refl | false ↦ refl ]

pub sound_groups : (xs : List ListAction) (held : List (Option (List ℕ))) (keys : List (List ℕ)) (instances remote : ℕ) → list_all is_sound_group (groups_of xs held keys instances remote) ≡ true
sound_groups xs held keys instances remote =
    let each = share (map (users held) keys) instances in
    let last = min remote (remote_users xs) in
    list_all-append is_sound_group (map (key_group xs held each) keys) (executor_groups last)
    ∙ and_from _ _ (sound_keys xs held each keys) (sound_executor last)
