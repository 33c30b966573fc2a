-- The plan of a list whose groups have no berths of their own is sound, and the executor has few.
use Rattle.std.proofs.Common.{◌≡◌, ℕ, suc, ◌^◌, ◌==◌, nat_lt, true, false, ◌&&◌, ◌||◌, not, cond, List, [], ◌∷◌, length, map, min, Option, Some, None, refl, ap, sym, ◌∙◌, arith}
use Rattle.std.specs.Prelude.{sum_by}
use Rattle.std.specs.List.{list_all}
use Rattle.std.proofs.lemmas.Bool.{and_from, eqb-true}
use Rattle.std.proofs.lemmas.Bool.Decides.{nat_tests}
use Rattle.std.proofs.lemmas.List.{length-map}
use Rattle.std.proofs.lemmas.List.Folds.{list_all-append}
use Rattle.std.proofs.lemmas.List.Sums.{sum_by-append, sum_by-cons}
use Rattle.exec_journal.proofs.Ruled.{by_bool}
use Rattle.run_plan.specs.declared.plan.Group.{Group}
use Rattle.run_plan.specs.declared.plan.Kind.TheVariants as kind
use Rattle.run_plan.specs.declared.plan.Plan.{Plan}
use Rattle.run_plan.specs.declared.plan.PlanAction.{PlanAction}
use Rattle.run_plan.specs.Groups.{berths, is_remote}
use Rattle.run_plan.specs.Sound.{Sound, are_sound_from, has_branches, is_earlier, is_sound_group}
use Rattle.worker_key.specs.declared.key.Mode.{Mode}
use Rattle.worker_key.specs.declared.key.Mode.TheVariants as mode
use Rattle.list_actions.specs.declared.types.ListAction.{ListAction}
use Rattle.action_list.specs.Keys.{keys_of, mode_of}
use Rattle.action_list.specs.Plans.{executor_groups, first_user, group_by, key_group, kind_by, local_key, plan_of, remote_users, users}
use Rattle.shared_tasks.specs.Tasks.{bare, without_berths}
use Rattle.shared_tasks.proofs.Pooled.{is_berthed}

-- ---- without berths

same_actions : (p : Plan) (a : ℕ) (xs : List PlanAction)
    → are_sound_from (bare p) a xs ≡ are_sound_from p a xs
same_actions p a [] = refl
same_actions p a (x ∷ xs) = λ i.
    (nat_lt (length x.outputs) (2 ^ 32)
    && (has_branches (length-map p.groups without_berths i) x
    && list_all (is_earlier p.actions a) x.makers))
    && same_actions p (suc a) xs i

no_berths : (gs : List Group) → sum_by (λ (g : Group). g.berths) (map without_berths gs) ≡ 0
no_berths [] = refl
no_berths (g ∷ gs) =
    let rest = no_berths gs in
    let sum = sum_by-cons (λ (x : Group). x.berths) (without_berths g) (map without_berths gs) in
    omega (arith, rest, sum)

same_groups : (gs : List Group)
    → list_all is_sound_group (map without_berths gs) ≡ list_all is_sound_group gs
same_groups [] = refl
same_groups (g ∷ gs) = ap (λ b. is_sound_group g && b) (same_groups gs)

pub sound_bare : (p : Plan) → Sound p → Sound (bare p)
sound_bare p sound = record {
  least = sound.least;
  most = sound.most;
  actions = sound.actions;
  seats = (let none = no_berths p.groups in omega (arith, none));
  groups = (let e = length-map p.groups without_berths in let few = sound.groups in
      omega (arith, e, few));
  each_group = same_groups p.groups ∙ sound.each_group;
  each_action = same_actions p 0 p.actions ∙ sound.each_action;
}

-- ---- the executor

berths_by : (o : Option ListAction) (n : ℕ) → (group_by o n).berths ≡ n
berths_by None n = refl
berths_by (Some x) n = refl

kinds_by : (m : Mode) → is_remote (kind_by m) ≡ false
kinds_by mode.Single = refl
kinds_by mode.Multi = refl
kinds_by mode.Boxed = refl

group_kind : (o : Option ListAction) (n : ℕ) → is_remote (group_by o n).kind ≡ false
group_kind None n = refl
group_kind (Some x) n = kinds_by (mode_of x)

module _ (xs : List ListAction) (held : List (Option (List ℕ))) where
  pub none_of_keys : (keys : List (List ℕ))
      → sum_by (λ (g : Group). g.berths) (map (key_group xs held 0) keys) ≡ 0
  none_of_keys [] = refl
  none_of_keys (key ∷ keys) =
      let g = key_group xs held 0 key in
      let least : min 0 (users held key) ≡ 0 = omega arith in
      let own : g.berths ≡ 0 = berths_by (first_user xs held key) (min 0 (users held key)) ∙ least in
      let rest = none_of_keys keys in
      let sum = sum_by-cons (λ (x : Group). x.berths) g (map (key_group xs held 0) keys) in
      omega (arith, own, rest, sum)

  pub keys_berthed : (n : ℕ) (keys : List (List ℕ)) → list_all is_berthed (map (key_group xs held n) keys) ≡ true
  keys_berthed n [] = refl
  keys_berthed n (key ∷ keys) =
      let g = key_group xs held n key in
      ap (λ b. (not b || nat_lt 0 g.berths) && list_all is_berthed (map (key_group xs held n) keys))
      (group_kind (first_user xs held key) (min n (users held key)))
      ∙ keys_berthed n keys

pub executors_are : (n : ℕ) → sum_by (λ (g : Group). g.berths) (executor_groups n) ≡ n
executors_are n = by_bool (n == 0)
    (λ b. (n == 0) ≡ b → sum_by (λ (g : Group). g.berths)
    (cond b [] (record { kind = kind.Remote; cancel = false; berths = n } ∷ [])) ≡ n)
    (λ _ e. sym (eqb-true n 0 e))
    (λ _ e. omega arith) refl

pub executors_berthed : (n : ℕ) → list_all is_berthed (executor_groups n) ≡ true
executors_berthed n = by_bool (n == 0)
    (λ b. (n == 0) ≡ b → list_all is_berthed
    (cond b [] (record { kind = kind.Remote; cancel = false; berths = n } ∷ [])) ≡ true)
    (λ _ e. refl)
    (λ _ e. let some : nat_lt 0 n ≡ true = grind (arith, nat_tests) in rw some refl) refl

module _ (xs : List ListAction) (remote retries : ℕ) where
  abbrev drawn : Plan
  drawn = plan_of xs 0 remote retries

  abbrev most : ℕ
  most = min remote (remote_users xs)

  pub executors : berths drawn ≡ most
  unfolding plan_of
  executors =
      let held = map local_key xs in
      let keys = keys_of xs in
      sum_by-append (λ (g : Group). g.berths) (map (key_group xs held 0) keys) (executor_groups most)
      ∙ (let a = none_of_keys xs held keys in let b = executors_are most in omega (arith, a, b))

  pub berthed : list_all is_berthed drawn.groups ≡ true
  unfolding plan_of
  berthed =
      let held = map local_key xs in
      let keys = keys_of xs in
      list_all-append is_berthed (map (key_group xs held 0) keys) (executor_groups most)
      ∙ and_from _ _ (keys_berthed xs held 0 keys) (executors_berthed most)
