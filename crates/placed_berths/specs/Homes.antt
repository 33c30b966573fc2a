-- Which pool each group stands in, as it is noted by the groups' numbers.
use Rattle.std.specs.Prelude.{◌≡◌, ℕ, suc, ◌<◌, ◌==◌, nat_lt, Bool, true, false, Some, unwrap_or, option_map, List, [], ◌∷◌, length, filter, slice_get}
use Rattle.std.specs.List.{list_all}
use Rattle.list_lemmas.specs.Places.{update}
use Rattle.placed_rules.specs.declared.pools.SharedPool.{SharedPool}
use Rattle.placed_rules.specs.Pools.{has_group}

-- each of so many groups stands in one of the pools, and these name no other
pub record StandOnce (groups : ℕ) (pools : List SharedPool) : Type 0 where
  pub named : list_all (λ pool. list_all (λ g. nat_lt g groups) pool.groups) pools ≡ true
  pub once : (g : ℕ) → g < groups → length (filter (λ pool. has_group pool g) pools) ≡ 1

-- it is noted that the group stands in the pool at place p
abbrev pub is_home : List ℕ → ℕ → ℕ → Bool
is_home homes g p = unwrap_or (option_map (λ h. h == p) (slice_get homes g)) false

-- so exactly where it does
abbrev pub AreHomes : List SharedPool → List ℕ → Type 0
AreHomes pools homes = (p g : ℕ) (pool : SharedPool) → slice_get pools p ≡ Some pool
    → is_home homes g p ≡ has_group pool g

-- it is noted that these groups stand in the pool at a place
abbrev pub with_homes : ℕ → List ℕ → List ℕ → List ℕ
with_homes p [] homes = homes
with_homes p (g ∷ gs) homes = with_homes p gs (update (λ _. p) homes g)

-- so of the groups of each of these pools, the first of which has the place p
abbrev pub homes_from : List SharedPool → ℕ → List ℕ → List ℕ
homes_from [] p homes = homes
homes_from (x ∷ xs) p homes = homes_from xs (suc p) (with_homes p x.groups homes)
