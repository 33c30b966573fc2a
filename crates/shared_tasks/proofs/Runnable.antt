-- In pools made of parts, each group that a branch names has a berth, and may hold a line there.
use Rattle.std.proofs.Common.{◌≡◌, ℕ, zero, suc, ◌+◌, ◌-◌, ◌<◌, ◌≤◌, nat_lt, true, ◌&&◌, ◌||◌, cond, List, [], ◌∷◌, length, Option, Some, is_some, refl, ap, sym, subst, ◌∙◌, arith}
use Rattle.std.specs.Prelude.{slice_get, sum_by}
use Rattle.std.specs.List.{filter}
use Rattle.std.proofs.lemmas.Bool.{and_parts, le-ltb, lt-ltb, ltb-true}
use Rattle.std.proofs.lemmas.List.Sums.{sum_by-cons}
use Rattle.exec_journal.proofs.Ruled.{by_bool}
use Rattle.action_list.specs.declared.parts.GroupPart.{GroupPart}
use Rattle.run_plan.specs.declared.plan.Branch.{Branch}
use Rattle.run_plan.specs.declared.plan.Branch.TheVariants.{Local, Remote}
use Rattle.run_plan.specs.declared.plan.Group.{Group}
use Rattle.run_plan.specs.declared.plan.Plan.{Plan}
use Rattle.run_plan.specs.declared.plan.PlanAction.{PlanAction}
use Rattle.run_plan.specs.declared.plan.Speech.{Speech}
use Rattle.run_plan.specs.Groups.{group_of}
use Rattle.run_plan.specs.Sound.{Sound, are_different, are_sound_from, has_branches, is_sound_action, names_group}
use Rattle.placed_rules.specs.declared.pools.SharedPlan.{SharedPlan}
use Rattle.placed_rules.specs.declared.pools.SharedPool.{SharedPool}
use Rattle.placed_rules.specs.Needs.{most_lines}
use Rattle.placed_rules.specs.Pools as p
use Rattle.placed_rules.specs.Runnable.{EachHasPool, HasPool}
use Rattle.shared_tasks.specs.Pools.{pools_in, spoken_pools}
use Rattle.shared_tasks.proofs.Pooled.{ArePartsPools, ArePools, are_pools, sound_pools}

-- ---- the pool of a group

-- one of these pools has the group, and a berth
record Stands (pools : List SharedPool) (g : ℕ) : Type 0 where
  berth : ℕ
  within : berth < sum_by (λ (pool : SharedPool). pool.berths) pools
  pool : SharedPool
  is : p.pool_from pools berth ≡ Some pool
  member : p.has_group pool g ≡ true
  some : 1 ≤ pool.berths

in_front : (x : SharedPool) (xs : List SharedPool) (g : ℕ) → p.has_group x g ≡ true → 1 ≤ x.berths
    → Stands (x ∷ xs) g
in_front x xs g here some = record {
  berth = 0;
  within = (let sum = sum_by-cons (λ (pool : SharedPool). pool.berths) x xs in
      omega (arith, sum, some));
  pool = x;
  is = rw (lt-ltb 0 x.berths (omega (arith, some))) refl;
  member = here;
  some = some;
}

behind : (x : SharedPool) (xs : List SharedPool) (g : ℕ) → Stands xs g → Stands (x ∷ xs) g
behind x xs g s =
    let back : (s.berth + x.berths) - x.berths ≡ s.berth = omega arith in
    let le : x.berths ≤ s.berth + x.berths = omega arith in
    record {
      berth = s.berth + x.berths;
      within = (let sum = sum_by-cons (λ (pool : SharedPool). pool.berths) x xs in
          let lt = s.within in omega (arith, sum, lt));
      pool = s.pool;
      is = rw (le-ltb (s.berth + x.berths) x.berths le) (ap (p.pool_from xs) back ∙ s.is);
      member = s.member;
      some = s.some;
    }

-- each pool has a berth, so a group that stands in one has one
stands : (q : SharedPlan) (xs : List (Speech × SharedPool)) → ArePools q xs → (g : ℕ)
    → 1 ≤ length (filter (λ pool. p.has_group pool g) (pools_in xs)) → Stands (pools_in xs) g
stands q [] are g some = absurd (omega (arith, some))
stands q (x ∷ xs) are g some =
    let rest : List SharedPool = filter (λ pool. p.has_group pool g) (pools_in xs) in
    by_bool (p.has_group x.1 g) (λ b. p.has_group x.1 g ≡ b → 1 ≤ length (cond b (x.1 ∷ rest) rest)
    → Stands (x.1 ∷ pools_in xs) g)
    (λ _ here _. in_front x.1 (pools_in xs) g here are.0.some)
    (λ _ _ later. behind x.1 (pools_in xs) g (stands q xs are.1 g later)) refl some

-- ---- the groups that branches name

below : (n : ℕ) (o : Option ℕ) (g : ℕ) → names_group n o ≡ true → o ≡ Some g → g < n
below n o g h e = ltb-true g n (subst (λ v. names_group n v ≡ true) e h)

named_below : (n : ℕ) (x : PlanAction) (b : Branch) (g : ℕ) → has_branches n x ≡ true
    → group_of x b ≡ Some g → g < n
named_below n x b g h named =
    let rest = (and_parts (is_some x.local || is_some x.remote)
    ((names_group n x.local && names_group n x.remote) && are_different x.local x.remote) h).1 in
    let both = (and_parts (names_group n x.local && names_group n x.remote)
    (are_different x.local x.remote) rest).0 in
    by b (and_parts (names_group n x.local) (names_group n x.remote) both) named
  where
    by : (c : Branch) → (names_group n x.local ≡ true) × (names_group n x.remote ≡ true)
        → group_of x c ≡ Some g → g < n
    by Local names is = below n x.local g names.0 is
    by Remote names is = below n x.remote g names.1 is

branches_at : (plan : Plan) (a i : ℕ) (xs : List PlanAction) (x : PlanAction)
    → are_sound_from plan a xs ≡ true → slice_get xs i ≡ Some x
    → has_branches (length plan.groups) x ≡ true
branches_at plan a i [] x h at = absurd (cc)
branches_at plan a zero (y ∷ ys) x h at =
    let same : y ≡ x = cc in
    let whole = (and_parts (is_sound_action plan a y) _ h).0 in
    let has = (and_parts (has_branches (length plan.groups) y) _
    (and_parts _ (has_branches (length plan.groups) y && _) whole).1).0 in
    subst (λ z. has_branches (length plan.groups) z ≡ true) same has
branches_at plan a (suc i) (y ∷ ys) x h at =
    branches_at plan (suc a) i ys x (and_parts (is_sound_action plan a y) _ h).1 at

-- ---- both

module _ (q : SharedPlan) (groups : List Group) (parts : List GroupPart) (workers : ℕ)
    (m : ArePartsPools q groups parts workers) (sound : Sound q.plan)
    (instances : 1 ≤ q.instances) where
  found : (g : ℕ) → g < length q.plan.groups → Stands q.pools g
  found g lt =
      let all = spoken_pools groups parts workers in
      let are = are_pools q groups parts m.fitting workers m.some in
      let once : length (filter (λ pool. p.has_group pool g) (pools_in all)) ≡ 1 =
      ap (λ pools. length (filter (λ pool. p.has_group pool g) pools)) (sym m.pools)
      ∙ (sound_pools q groups parts workers m).once g lt in
      subst (λ pools. Stands pools g) (sym m.pools) (stands q all are g (omega (arith, once)))

  -- a group may hold a line in a pool with a berth
  room : (pool : SharedPool) (g : ℕ) → 1 ≤ pool.berths → nat_lt 0 (most_lines q pool g) ≡ true
  room pool g some =
      by_bool (p.is_of_executor q g) (λ b. nat_lt 0 (cond b pool.berths q.instances) ≡ true)
      (λ _. lt-ltb 0 pool.berths (omega (arith, some)))
      (λ _. lt-ltb 0 q.instances (omega (arith, instances)))

  has_pool : (g : ℕ) → g < length q.plan.groups → HasPool q g
  has_pool g lt =
      let s = found g lt in
      record {
        berth = s.berth;
        within = s.within;
        pool = s.pool;
        is = s.is;
        member = s.member;
        room = room s.pool g s.some;
      }

  pub each_has_pool : EachHasPool q
  each_has_pool a x b g at named =
      has_pool g (named_below (length q.plan.groups) x b g
      (branches_at q.plan 0 a q.plan.actions x sound.each_action at) named)
