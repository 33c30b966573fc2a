-- A plan's pools are without groups where they don't fit; so it always has a discipline, and sound
-- pools stay.
use Rattle.std.proofs.Common.{◌≡◌, ◌+◌, ◌≤◌, ℕ, Bool, true, false, ◌&&◌, cond, List, [], ◌∷◌, Option, refl, ap, ◌∙◌, arith}
use Rattle.std.specs.Prelude.{nat_le, nat_lt, length, sum_by}
use Rattle.std.specs.List.{fold, list_all}
use Rattle.std.proofs.lemmas.Bool.{le-leb, leb-true}
use Rattle.run_plan.specs.Limits.{most_berths}
use Rattle.core_contract.specs.Disciplines.{IsDiscipline}
use Rattle.exec_journal.proofs.Ruled.{by_bool}
use Rattle.placed_rules.specs.declared.pools.SharedPlan.{SharedPlan}
use Rattle.placed_rules.specs.declared.pools.SharedPool.{SharedPool}
use Rattle.placed_rules.specs.Pools.{SoundPools, is_apart, pools_fit, seats, usable, usable_pools, usable_seats, without_groups}
use Rattle.placed_rules.specs.Placed.{pooled_discipline}
use Rattle.placed_rules.proofs.PoolRuling.{pooled_is_discipline}

both : (a b : Bool) → a ≡ true → b ≡ true → (a && b) ≡ true
both true true h k = refl
both true false h k = absurd (cc)
both false b h k = absurd (cc)

abbrev with_pools : SharedPlan → List SharedPool → SharedPlan
with_pools s pools = record { plan = s.plan; pools = pools; instances = s.instances }

abbrev berths_in : List SharedPool → ℕ
berths_in pools = sum_by (λ x. x.berths) pools

-- ---- sound pools

pub sound_fits : (s : SharedPlan) → SoundPools s → pools_fit s ≡ true
sound_fits s sound = both _ _ sound.named sound.apart

pools_stay : (s : SharedPlan) → SoundPools s → usable_pools s ≡ s.pools
pools_stay s sound =
    ap (λ b. cond b (cond (pools_fit s) s.pools (without_groups s.pools)) [])
    (le-leb (seats s) most_berths sound.berths)
    ∙ ap (λ b. cond b s.pools (without_groups s.pools)) (sound_fits s sound)

pub usable_is : (s : SharedPlan) → SoundPools s → usable s ≡ s
usable_is s sound = ap (with_pools s) (pools_stay s sound)

-- ---- pools without groups

named_none : (s : SharedPlan) (pools : List SharedPool)
    → list_all (λ pool. list_all (λ g. nat_lt g (length s.plan.groups)) pool.groups)
    (without_groups pools) ≡ true
named_none s [] = refl
named_none s (x ∷ xs) = named_none s xs

apart_none : (s : SharedPlan) (pools : List SharedPool)
    → list_all (is_apart s) (without_groups pools) ≡ true
apart_none s [] = refl
apart_none s (x ∷ xs) = apart_none s xs

-- so many berths, and those of these pools
abbrev more_berths : ℕ → SharedPool → ℕ
more_berths n x = n + x.berths

berths_after : (n : ℕ) (pools : List SharedPool)
    → fold more_berths n (without_groups pools) ≡ fold more_berths n pools
berths_after n [] = refl
berths_after n (x ∷ xs) = berths_after (n + x.berths) xs

berths_none : (pools : List SharedPool) → berths_in (without_groups pools) ≡ berths_in pools
berths_none pools = berths_after 0 pools

-- ---- so each plan has a discipline

pub usable_fits : (s : SharedPlan) → pools_fit (usable s) ≡ true
usable_fits s = few (nat_le (seats s) most_berths)
  where
    fit : (b : Bool) → pools_fit s ≡ b
        → pools_fit (with_pools s (cond b s.pools (without_groups s.pools))) ≡ true
    fit true h = h
    fit false h = both _ _ (named_none s s.pools)
        (apart_none (with_pools s (without_groups s.pools)) s.pools)

    few : (b : Bool) → pools_fit (with_pools s (cond b (cond (pools_fit s) s.pools
        (without_groups s.pools)) [])) ≡ true
    few true = fit (pools_fit s) refl
    few false = refl

pub usable_is_discipline : (s : SharedPlan) (ticks : Option ℕ)
    → IsDiscipline (pooled_discipline (usable s) ticks)
usable_is_discipline s ticks = pooled_is_discipline (usable s) ticks (usable_fits s)

pub usable_berths : (s : SharedPlan) → seats (usable s) ≡ usable_seats s.pools
usable_berths s = few (nat_le (seats s) most_berths)
  where
    fit : (b : Bool) → berths_in (cond b s.pools (without_groups s.pools)) ≡ berths_in s.pools
    fit true = refl
    fit false = berths_none s.pools

    few : (b : Bool) → berths_in (cond b (cond (pools_fit s) s.pools (without_groups s.pools)) [])
        ≡ cond b (berths_in s.pools) 0
    few true = fit (pools_fit s)
    few false = refl

pub few_usable : (pools : List SharedPool) → usable_seats pools ≤ most_berths
few_usable pools =
    by_bool (nat_le (berths_in pools) most_berths)
    (λ b. cond b (berths_in pools) 0 ≤ most_berths)
    (λ yes. leb-true (berths_in pools) most_berths yes) (λ _. omega arith)
