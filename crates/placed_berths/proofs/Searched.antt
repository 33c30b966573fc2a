-- What is launched for a pool is the least action that is queued in a starved group of it, and a
-- group of the pool is starved exactly where there is one.
use Rattle.std.proofs.Common.{◌≡◌, ℕ, ◌+◌, ◌<◌, ◌==◌, Bool, true, false, ◌&&◌, cond, List, [], ◌∷◌, length, Option, Some, None, is_some, option_map, unwrap_or, refl, ap, sym, ◌∙◌, arith}
use Rattle.std.specs.List.{list_any}
use Rattle.std.proofs.lemmas.Bool.{and_parts, eq-eqb, eqb-true}
use Rattle.run_plan.specs.declared.plan.Branch.{Branch}
use Rattle.run_plan.specs.declared.plan.Branch.TheVariants.{Local, Remote}
use Rattle.list_lemmas.specs.Options.{or_else}
use Rattle.exec_journal.specs.Rules.{when}
use Rattle.exec_journal.proofs.Ruled.{by_bool}
use Rattle.ready_order.specs.declared.ActionState.{ActionState}
use Rattle.ready_order.specs.declared.BranchState.{BranchState}
use Rattle.ready_order.specs.Queue as queue
use Rattle.core_state.specs.declared.state.State.{State}
use Rattle.placed_rules.specs.declared.pools.SharedPlan.{SharedPlan}
use Rattle.placed_rules.specs.declared.pools.SharedPool.{SharedPool}
use Rattle.placed_rules.specs.Pools.{has_group}
use Rattle.shared_laws.specs.Berths as told
use Rattle.shared_laws.proofs.Members.{any_member, member_any}
use Rattle.placed_berths.specs.Starved.{starved_in}

and_false : (b : Bool) → (b && false) ≡ false
and_false true = refl
and_false false = refl

swapped : (h f t : Bool) → (h && (f && t)) ≡ (f && (h && t))
swapped true f t = refl
swapped false f t = sym (and_false f)

both_ways : (a b : Bool) → (a ≡ true → b ≡ true) → (b ≡ true → a ≡ true) → a ≡ b
both_ways true b to from = sym (to refl)
both_ways false true to from = from refl
both_ways false false to from = refl

-- the local branch before the remote one
abbrev branch_for : Bool → Bool → Option Branch
branch_for l r = cond l (Some Local) (cond r (Some Remote) None)

abbrev first_of : ℕ → Option Branch → Option (ℕ × Branch) → Option (ℕ × Branch)
first_of a o rest = or_else (option_map (λ b. (a, b)) o) rest

one_by_one : (a : ℕ) (l r : Bool) (rest : Option (ℕ × Branch))
    → or_else (when l (a, Local)) (or_else (when r (a, Remote)) rest)
    ≡ first_of a (branch_for l r) rest
one_by_one a true r rest = refl
one_by_one a false true rest = refl
one_by_one a false false rest = refl

module _ (q : SharedPlan) (s : State) (pool : SharedPool) where
  abbrev groups : ℕ → Bool
  groups = starved_in q s pool

  abbrev is_free : ActionState → BranchState → Bool
  is_free x b = b.free && (queue.is_open x && queue.is_ready s.ready x)

  abbrev among : ActionState → BranchState → Bool
  among x b = queue.may_begin_among s.ready groups x b

  abbrev is_of : Option ℕ → ℕ → Bool
  is_of o g = unwrap_or (option_map (λ k. k == g) o) false

  branch_is : (x : ActionState) (b : BranchState) → told.starved_branch q s pool x b ≡ among x b
  branch_is x b = by b.group
    where
      by : (o : Option ℕ) → unwrap_or (option_map (λ g. has_group pool g
          && ((is_of o g && is_free x b) && told.is_starved q s pool g)) o) false
          ≡ (is_free x b && unwrap_or (option_map groups o) false)
      by None = sym (and_false (is_free x b))
      by (Some k) =
          ap (λ c. has_group pool k && ((c && is_free x b) && told.is_starved q s pool k))
          (eq-eqb k k refl)
          ∙ swapped (has_group pool k) (is_free x b) (told.is_starved q s pool k)

  from_is : (a : ℕ) (xs : List ActionState)
      → told.starved_from q s pool a xs ≡ queue.least_from s.ready groups a xs
  from_is a [] = refl
  from_is a (x ∷ xs) =
      (λ i. or_else (when (branch_is x x.local i) (a, Local))
      (or_else (when (branch_is x x.remote i) (a, Remote)) (from_is (a + 1) xs i)))
      ∙ one_by_one a (among x x.local) (among x x.remote)
      (queue.least_from s.ready groups (a + 1) xs)

  pub least_is : queue.least_among s.ready groups ≡ told.starved_from q s pool 0 s.ready
  least_is = sym (from_is 0 s.ready)

  -- ---- something of a starved group is queued, and found

  begins_among : (g : ℕ) → groups g ≡ true → (x : ActionState) (b : BranchState)
      → queue.may_begin s.ready g x b ≡ true → among x b ≡ true
  begins_among g is x b h =
      let parts = and_parts (queue.is_of g b) (is_free x b) h in
      ap (λ c. c && queue.is_of_any groups b) parts.1 ∙ by b.group parts.0
    where
      by : (o : Option ℕ) → is_of o g ≡ true → unwrap_or (option_map groups o) false ≡ true
      by None k = absurd (cc)
      by (Some own) k = ap groups (eqb-true own g k) ∙ is

  none_begins : (g : ℕ) → groups g ≡ true → (x : ActionState) (b : BranchState)
      → among x b ≡ false → queue.may_begin s.ready g x b ≡ false
  none_begins g is x b off =
      by_bool (queue.may_begin s.ready g x b) (λ v. v ≡ false)
      (λ on. absurd (let more = begins_among g is x b on in cc)) (λ _. refl)

  some_found : (g : ℕ) → groups g ≡ true → (a : ℕ) (xs : List ActionState)
      → is_some (queue.earliest_from s.ready g a xs) ≡ true
      → is_some (queue.least_from s.ready groups a xs) ≡ true
  some_found g is a [] h = absurd (cc)
  some_found g is a (x ∷ xs) h =
      by_bool (among x x.local) (λ v. is_some (first_of a (branch_for v (among x x.remote))
      (queue.least_from s.ready groups (a + 1) xs)) ≡ true)
      (λ _. refl)
      (λ l. by_bool (among x x.remote) (λ v. is_some (first_of a (branch_for false v)
      (queue.least_from s.ready groups (a + 1) xs)) ≡ true)
      (λ _. refl)
      (λ r. some_found g is (a + 1) xs (sym (λ i. is_some (first_of a
      (branch_for (none_begins g is x x.local l i) (none_begins g is x x.remote r i))
      (queue.earliest_from s.ready g (a + 1) xs))) ∙ h)))

  -- ---- what is found is of a starved group

  abbrev Starved : Type 0
  Starved = (g : ℕ) × (groups g ≡ true)

  of_groups : (x : ActionState) (b : BranchState) → among x b ≡ true → Starved
  of_groups x b h = by b.group (and_parts (is_free x b) (queue.is_of_any groups b) h).1
    where
      by : (o : Option ℕ) → unwrap_or (option_map groups o) false ≡ true → Starved
      by None k = absurd (cc)
      by (Some g) k = (g, k)

  found_of : (a : ℕ) (xs : List ActionState)
      → is_some (queue.least_from s.ready groups a xs) ≡ true → Starved
  found_of a [] h = absurd (cc)
  found_of a (x ∷ xs) h =
      by_bool (among x x.local) (λ v. is_some (first_of a (branch_for v (among x x.remote))
      (queue.least_from s.ready groups (a + 1) xs)) ≡ true → Starved)
      (λ l _. of_groups x x.local l)
      (λ _. by_bool (among x x.remote) (λ v. is_some (first_of a (branch_for false v)
      (queue.least_from s.ready groups (a + 1) xs)) ≡ true → Starved)
      (λ r _. of_groups x x.remote r) (λ _ k. found_of (a + 1) xs k)) h

  -- ---- so something is found exactly where a group of the pool is starved

  pub some_is : is_some (told.starved_from q s pool 0 s.ready)
      ≡ list_any (told.is_starved q s pool) pool.groups
  some_is =
      ap is_some (from_is 0 s.ready)
      ∙ both_ways (is_some (queue.least_from s.ready groups 0 s.ready))
      (list_any (told.is_starved q s pool) pool.groups) to from
    where
      to : is_some (queue.least_from s.ready groups 0 s.ready) ≡ true
          → list_any (told.is_starved q s pool) pool.groups ≡ true
      to h =
          let found = found_of 0 s.ready h in
          let parts = and_parts (has_group pool found.0) (told.is_starved q s pool found.0) found.1
          in let own = any_member (λ k. k == found.0) pool.groups parts.0 in
          member_any (told.is_starved q s pool) own.0 pool.groups own.1
          (ap (told.is_starved q s pool) (eqb-true own.0 found.0 own.2) ∙ parts.1)

      from : list_any (told.is_starved q s pool) pool.groups ≡ true
          → is_some (queue.least_from s.ready groups 0 s.ready) ≡ true
      from h =
          let own = any_member (told.is_starved q s pool) pool.groups h in
          let g = own.0 in
          let here = member_any (λ k. k == g) g pool.groups own.1 (eq-eqb g g refl) in
          let queued = (and_parts (is_some (queue.earliest_in s.ready g)) _ own.2).0 in
          some_found g (ap (λ b. b && told.is_starved q s pool g) here ∙ own.2) 0 s.ready queued

-- ---- what is found is of an action that is there

pick : (p : Bool) (z : ℕ × Branch) (o : Option (ℕ × Branch)) (y : ℕ × Branch)
    → or_else (when p z) o ≡ Some y → (C : Type 0) → (z ≡ y → C) → (o ≡ Some y → C) → C
pick true z o y h C here later = here (cc)
pick false z o y h C here later = later h

pub found_within : (q : SharedPlan) (s : State) (pool : SharedPool) (a : ℕ) (xs : List ActionState)
    (y : ℕ × Branch) → told.starved_from q s pool a xs ≡ Some y → y.0 < a + length xs
found_within q s pool a [] y h = absurd (cc)
found_within q s pool a (x ∷ xs) y h =
    pick (told.starved_branch q s pool x x.local) (a, Local)
    (or_else (when (told.starved_branch q s pool x x.remote) (a, Remote))
    (told.starved_from q s pool (a + 1) xs)) y h
    (y.0 < a + length (x ∷ xs))
    (λ is. let e : a ≡ y.0 = ap (λ z. z.0) is in omega (arith, e))
    (λ k. pick (told.starved_branch q s pool x x.remote) (a, Remote)
    (told.starved_from q s pool (a + 1) xs) y k
    (y.0 < a + length (x ∷ xs))
    (λ is. let e : a ≡ y.0 = ap (λ z. z.0) is in omega (arith, e))
    (λ n. let lt = found_within q s pool (a + 1) xs y n in omega (arith, lt)))
