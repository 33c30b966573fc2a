-- What the legal journals of each front's tasks have.
use Rattle.std.proofs.Common.{◌≡◌, ◌*◌, ◌+◌, ◌≤◌, ℕ, zero, suc, List, Option, Some, None, IfSome, arith, refl, subst, sym}
use Rattle.core_contract.specs.Discipline.{Discipline}
use Rattle.core_contract.specs.Disciplines.{LegalBy, own_discipline}
use Rattle.exec_journal.specs.Entry.{Entry}
use Rattle.placed_berths.specs.Basis.{usable_placed}
use Rattle.placed_runs.proofs.Cores.{usable_eq}
use Rattle.placed_runs.specs.Fronts.{OwnEnds, DelayedEnds, PoolsEnd, SharedPromised, SpawnPromised, ends_on, ends_with, spawn_basis}
use Rattle.placed_rules.proofs.Usable.{usable_is}
use Rattle.placed_rules.specs.declared.placed.Placed.{Placed}
use Rattle.placed_rules.specs.declared.placed.Seating.{Seating}
use Rattle.placed_rules.specs.declared.placed.Seating.TheVariants.{Own, Pools}
use Rattle.placed_rules.specs.declared.pools.SharedPlan.{SharedPlan}
use Rattle.placed_rules.specs.Placed.{delayed_discipline, on_own, on_pools, placed, placed_discipline, shared_by, shared_discipline}
use Rattle.placed_rules.specs.Pools.{SoundPools, seats}
use Rattle.placed_rules.specs.Runnable.{EachHasPool}
use Rattle.placed_tasks.specs.Tasks.{MayBeOn, ticks_for}
use Rattle.progress_laws.proofs.Delay as delay
use Rattle.progress_laws.proofs.Moments.{never_stuck}
use Rattle.progress_laws.proofs.Own as own
use Rattle.progress_laws.proofs.Shared as shared
use Rattle.progress_laws.proofs.counts.Disciplines.{delayed_few, own_few, shared_few}
use Rattle.run_plan.specs.Groups.{berths}
use Rattle.run_plan.specs.Sound.{Sound}
use Rattle.run_plan.specs.declared.plan.Plan.{Plan}
use Rattle.run_tasks.specs.declared.task.Task.{Task}
use Rattle.run_values.specs.Runnable.{EachHasBerth}
use Rattle.spawn_core.specs.Earliest as earliest

pub pools_end : (q : SharedPlan) (j : List Entry) → SoundPools q → Sound q.plan → EachHasPool q
    → LegalBy (shared_discipline q) j → PoolsEnd q j
pools_end q j pools sound has legal = record {
  usable = usable_is q pools;
  awaited = never_stuck (shared_discipline q) (2 * seats q)
      (λ k legal rest. shared.ends_or_waits q k sound has legal rest) j legal;
  few = shared_few q j sound legal;
}

pub shared_promised : (q : SharedPlan) → SoundPools q → Sound q.plan → EachHasPool q → (j : List Entry)
    → LegalBy (placed_discipline (usable_placed (on_pools q None))) j
    → SharedPromised (on_pools q None) j
shared_promised q pools sound has j legal = record {
  pools = refl;
  ends = pools_end q j pools sound has (subst (λ (x : Placed). LegalBy (placed_discipline x) j)
      (usable_eq (on_pools q None) pools) legal);
}

-- with a delay, if it is one
own_ends : (ticks : Option ℕ) (p : Plan) → IfSome ticks (λ n. n ≡ 0 → ⊥) → Sound p → EachHasBerth p
    → (j : List Entry) → LegalBy (placed_discipline (on_own p ticks)) j → ends_with ticks p j
own_ends None p some sound has j legal = record {
  kept = earliest.kept_is p j sound legal;
  awaited = never_stuck (own_discipline p) (2 * berths p)
      (λ k legal rest. own.ends_or_waits p k sound has legal rest) j legal;
  few = own_few p j sound legal;
}
own_ends (Some n) p some sound has j legal = record {
  some = some;
  awaited = never_stuck (delayed_discipline p n) (2 * berths p + 1)
      (λ k legal rest. delay.ends_or_waits p n k sound has legal rest) j legal;
  few = delayed_few p n j sound legal;
}

some_ticks : (n : ℕ) → IfSome (ticks_for n) (λ k. k ≡ 0 → ⊥)
some_ticks zero = tt
some_ticks (suc n) = λ e. absurd (cc)

pub spawn_promises : (n : ℕ) (p : Plan) → Sound p → EachHasBerth p → (j : List Entry)
    → LegalBy (placed_discipline (usable_placed (spawn_basis n p))) j
    → SpawnPromised (spawn_basis n p) j
spawn_promises n p sound has j legal = record {
  own = refl;
  ends = own_ends (ticks_for n) p (some_ticks n) sound has j legal;
}

-- ---- on either

some_delay : (n : ℕ) → 1 ≤ n → n ≡ 0 → ⊥
some_delay n some none = omega (arith, some, none)

delay_is_one : (ticks : Option ℕ) → IfSome ticks (λ n. (1 ≤ n) × (n ≤ 9999))
    → IfSome ticks (λ n. n ≡ 0 → ⊥)
delay_is_one None some = tt
delay_is_one (Some n) some = some_delay n some.0

pub placed_promised : (t : Task) (p : Plan) (y : Seating) (ticks : Option ℕ)
    → MayBeOn y (record { task = t; placed = placed p y ticks })
    → IfSome ticks (λ n. (1 ≤ n) × (n ≤ 9999)) → (j : List Entry)
    → LegalBy (placed_discipline (usable_placed (placed p y ticks))) j → ends_on p y ticks j
placed_promised t p Own ticks may some j legal =
    own_ends ticks p (delay_is_one ticks some) (subst (λ (q : Plan). Sound q) (sym may.twin) may.sound)
    (subst (λ (q : Plan). EachHasBerth q) (sym may.twin) may.runnable) j legal
placed_promised t p (Pools xs n) None may some j legal =
    pools_end (shared_by p xs n) j may.pools (subst (λ (q : Plan). Sound q) (sym may.plan) may.sound)
    may.runnable (subst (λ (x : Placed). LegalBy (placed_discipline x) j)
    (usable_eq (on_pools (shared_by p xs n) None) may.pools) legal)
placed_promised t p (Pools xs n) (Some k) may some j legal = usable_is (shared_by p xs n) may.pools
