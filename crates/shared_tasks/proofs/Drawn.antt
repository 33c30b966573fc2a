-- A plan with parts that fit may be run by a core of shared berths, if its groups share them.
use Rattle.std.proofs.Common.{◌≡◌, ℕ, zero, suc, ◌^◌, ◌<◌, ◌≤◌, nat_lt, true, ◌&&◌, ◌||◌, List, [], ◌∷◌, length, Option, Some, None, is_some, option_map, refl, ap, sym, subst, ◌∙◌, arith}
use Rattle.std.specs.Prelude.{slice_get}
use Rattle.std.specs.List.{list_all}
use Rattle.std.proofs.lemmas.Bool.{and_parts, ltb-true}
use Rattle.std.proofs.lemmas.List.{length-map}
use Rattle.std.proofs.lemmas.Option.{slice_get-map}
use Rattle.action_list.specs.declared.parts.GroupPart.{GroupPart}
use Rattle.run_values.specs.Settings.{speaks_remote}
use Rattle.run_plan.specs.declared.plan.Group.{Group}
use Rattle.run_plan.specs.declared.plan.Plan.{Plan}
use Rattle.run_plan.specs.declared.plan.PlanAction.{PlanAction}
use Rattle.run_plan.specs.Groups.{berths, is_remote}
use Rattle.run_plan.specs.Sound.{Sound, are_different, are_sound_from, has_branches, is_sound_action, names_group}
use Rattle.run_tasks.proofs.Spoken.{Speaks, same_test}
use Rattle.placed_rules.specs.declared.pools.SharedPlan.{SharedPlan}
use Rattle.placed_rules.specs.Pools as p
use Rattle.placed_rules.specs.Runnable.{EachHasPool}
use Rattle.shared_tasks.specs.Pools.{speeches_in, spoken_pools}
use Rattle.shared_tasks.specs.Tasks.{SpeechesFit, pooled, without_berths}
use Rattle.shared_tasks.proofs.Bare.{sound_bare}
use Rattle.shared_tasks.proofs.Pooled.{ArePartsPools, as_many_speeches, is_berthed, no_groups, sound_pools, speeches_fit}
use Rattle.shared_tasks.proofs.Runnable.{each_has_pool}

-- a sound plan with a part for each group, whose executors have berths, and few
pub record IsDrawn (plan : Plan) (parts : List GroupPart) : Type 0 where
  pub sound : Sound plan
  pub as_many : length parts ≡ length plan.groups
  pub fit : (i : ℕ) (g : Group) (part : GroupPart) → slice_get plan.groups i ≡ Some g
      → slice_get parts i ≡ Some part → Speaks part.speech g.kind
  pub few : berths plan ≤ 16
  pub berthed : list_all is_berthed plan.groups ≡ true

there : {X : Type 0} (ys : List X) (i : ℕ) → i < length ys → (x : X) × (slice_get ys i ≡ Some x)
there [] i lt = absurd (omega (arith, lt))
there (y ∷ ys) zero lt = (y, refl)
there (y ∷ ys) (suc i) lt = there ys i (omega (arith, lt))

within : {X : Type 0} (ys : List X) (i : ℕ) (x : X) → slice_get ys i ≡ Some x → i < length ys
within [] i x e = absurd (cc)
within (y ∷ ys) zero x e = omega arith
within (y ∷ ys) (suc i) x e = let lt = within ys i x e in omega (arith, lt)

-- without groups an action can't use a branch
unnamed : (g : ℕ) → nat_lt g 0 ≡ true → ⊥
unnamed g h = let lt = ltb-true g 0 h in omega (arith, lt)

unused : (a b : Option ℕ) → ((is_some a || is_some b)
    && ((names_group 0 a && names_group 0 b) && are_different a b)) ≡ true → ⊥
unused a b h =
    let rest = (and_parts (is_some a || is_some b)
    ((names_group 0 a && names_group 0 b) && are_different a b) h) in
    let both = (and_parts (names_group 0 a && names_group 0 b) (are_different a b) rest.1).0 in
    by a b rest.0 (and_parts (names_group 0 a) (names_group 0 b) both)
  where
    by : (a b : Option ℕ) → (is_some a || is_some b) ≡ true
        → (names_group 0 a ≡ true) × (names_group 0 b ≡ true) → ⊥
    by None None some named = absurd (cc)
    by (Some g) b some named = unnamed g named.0
    by None (Some g) some named = unnamed g named.1

module _ (plan : Plan) (parts : List GroupPart) (d : IsDrawn plan parts) (workers instances : ℕ)
    (some : 1 ≤ workers) (most : workers ≤ 24) (lines : 1 ≤ instances) where
  abbrev q : SharedPlan
  q = pooled plan parts workers instances

  pub sound_own : Sound q.plan
  sound_own = sound_bare plan d.sound

  kinds : (g : ℕ) (x : Group) → slice_get plan.groups g ≡ Some x
      → p.is_of_executor q g ≡ is_remote x.kind
  kinds g x at =
      let own : slice_get q.plan.groups g ≡ Some (without_berths x) =
      slice_get-map without_berths plan.groups g ∙ ap (option_map without_berths) at in
      rw own refl

  fit : (g : ℕ) (x : GroupPart) → slice_get parts g ≡ Some x
      → p.is_of_executor q g ≡ speaks_remote x.speech
  fit g x at =
      let many = d.as_many in
      let lt = within parts g x at in
      let y = there plan.groups g (omega (arith, lt, many)) in
      kinds g y.0 y.1 ∙ sym (same_test x.speech y.0.kind (d.fit g y.0 x y.1 at))

  pools_are : ArePartsPools q plan.groups parts workers
  pools_are = record {
    fitting = record {
      as_many = d.as_many ∙ sym (length-map plan.groups without_berths);
      as_drawn = sym (length-map plan.groups without_berths);
      fit = fit;
      kinds = kinds;
      berthed = d.berthed;
    };
    pools = refl;
    some = some;
    most = most;
    few = d.few;
  }

  pub pools : p.SoundPools q
  pools = sound_pools q plan.groups parts workers pools_are

  pub runnable : EachHasPool q
  runnable = each_has_pool q plan.groups parts workers pools_are sound_own lines

  pub as_many : length (speeches_in (spoken_pools plan.groups parts workers)) ≡ p.seats q
  as_many = as_many_speeches q plan.groups parts workers pools_are

  pub speeches : SpeechesFit q (speeches_in (spoken_pools plan.groups parts workers))
  speeches = speeches_fit q plan.groups parts workers pools_are

  pub no_actions : p.seats q ≡ 0 → q.plan.actions ≡ []
  no_actions none = by q.plan.actions sound_own.each_action
      (no_groups q plan.groups parts workers pools_are none)
    where
      by : (ys : List PlanAction) → are_sound_from q.plan 0 ys ≡ true → q.plan.groups ≡ [] → ys ≡ []
      by [] h e = refl
      by (y ∷ ys) h e = absurd (
          let here = (and_parts (is_sound_action q.plan 0 y) _ h).0 in
          let branches = (and_parts (has_branches (length q.plan.groups) y) _
          (and_parts (nat_lt (length y.outputs) (2 ^ 32)) _ here).1).0 in
          unused y.local y.remote
          (subst (λ (gs : List Group). has_branches (length gs) y ≡ true) e branches))
