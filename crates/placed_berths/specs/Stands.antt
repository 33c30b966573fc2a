-- When a policy's tables stand for a journal, whose newest entry stands first.
use Rattle.std.specs.Prelude.{◌≡◌, ◌<◌, ℕ, true, false, Option, Some, None, option_map, List, length, slice_get}
use Rattle.run_plan.specs.declared.plan.Branch.TheVariants.{Remote}
use Rattle.run_plan.specs.declared.plan.Plan.{Plan}
use Rattle.run_plan.specs.declared.plan.PlanAction.{PlanAction}
use Rattle.exec_journal.specs.Attempts.{attempt}
use Rattle.exec_journal.specs.Entry.{Entry}
use Rattle.placed_rules.specs.declared.placed.Placed.{Placed}
use Rattle.placed_rules.specs.declared.placed.Seating.{Seating}
use Rattle.placed_rules.specs.declared.placed.Seating.TheVariants as seating
use Rattle.placed_rules.specs.declared.pools.SharedPlan.{SharedPlan}
use Rattle.placed_rules.specs.Due.{ticks_since}
use Rattle.placed_rules.specs.Placed.{shared_by}
use Rattle.placed_rules.specs.Pools.{SoundPools, seats}
use Rattle.shared_laws.specs.Spoken.{IsSpoken}
use Rattle.placed_berths.specs.declared.policy.PlacedBerths.{PlacedBerths}
use Rattle.placed_berths.specs.declared.policy.Berths.{Berths}
use Rattle.placed_berths.specs.declared.policy.Berths.TheVariants as own
use Rattle.placed_berths.specs.declared.shared.SharedBerths.{SharedBerths}
use Rattle.placed_berths.specs.Counts.{Facts, capped, is_marked}
use Rattle.placed_berths.specs.Due.{may_wait}

-- ---- Ticks

-- the local branch of the action waits: more Ticks are to come, and its remote branch, which
-- executors run, has an attempt that wasn't begun
pub record IsHeld (p : Plan) (n : ℕ) (j : List Entry) (a : ℕ) (x : PlanAction) : Type 0 where
  pub waits : may_wait p x ≡ true
  pub short : ticks_since p j x < n
  pub left : attempt j a Remote < p.limit

-- a local branch waits for n Ticks, of each action of the plan as many are counted as came since its
-- inputs were made, up to those, and the local branch of each that isn't marked waits
pub record StandsFor (p : Plan) (n : ℕ) (f : Facts) (j : List Entry) : Type 0 where
  pub ticks : f.ticks ≡ n
  pub each : (a : ℕ) → slice_get f.counts a
      ≡ option_map (λ x. capped n (ticks_since p j x)) (slice_get p.actions a)
  pub size : length f.marks ≡ length p.actions
  pub unmarked : (a : ℕ) (x : PlanAction) → slice_get p.actions a ≡ Some x
      → is_marked f a ≡ false → IsHeld p n j a x

-- there are tables exactly where there are Ticks
abbrev pub DelayStands : Plan → Option ℕ → Option Facts → List Entry → Type 0
DelayStands p None None j = Unit {0}
DelayStands p (Some n) (Some f) j = StandsFor p n f j
DelayStands p None (Some f) j = ⊥
DelayStands p (Some n) None j = ⊥

-- ---- berths

-- it has the plan's pools, which are sound, and the order in which their berths have said something
pub record PoolsStand (q : SharedPlan) (x : SharedBerths) (j : List Entry) : Type 0 where
  pub sound : SoundPools q
  pub pools : x.pools ≡ q.pools
  pub instances : x.instances ≡ q.instances
  pub spoken : IsSpoken (seats q) j x.spoken.items

abbrev pub BerthsStand : Plan → Seating → Berths → List Entry → Type 0
BerthsStand p seating.Own own.Own j = Unit {0}
BerthsStand p (seating.Pools pools instances) (own.Shared x) j =
    PoolsStand (shared_by p pools instances) x j
BerthsStand p seating.Own (own.Shared x) j = ⊥
BerthsStand p (seating.Pools pools instances) own.Own j = ⊥

-- ---- a policy

pub record StandsBy (b : Placed) (m : PlacedBerths) (j : List Entry) : Type 0 where
  pub seating : BerthsStand b.plan b.seating m.seating j
  pub delay : DelayStands b.plan b.ticks m.delay j
