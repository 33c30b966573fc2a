-- The core of a plan on its berths goes by that plan and those berths.
use Rattle.std.proofs.Common.{◌≡◌, ◌∙◌, ◌*◌, ◌<◌, ℕ, true, List, [], Option, Some, None, arith, ap, refl, subst, sym, eq-eqb}
use Rattle.std.specs.Prelude.{is_some}
use Rattle.core_contract.specs.Duties.{proxy_lane}
use Rattle.placed_berths.specs.declared.policy.PlacedBerths.{PlacedBerths}
use Rattle.placed_berths.specs.Basis.{SoundSeating, placed_by, usable_in, usable_placed}
use Rattle.placed_berths.specs.Laws.{basis_is}
use Rattle.placed_berths.specs.Stands.{StandsBy}
use Rattle.placed_rules.proofs.Usable.{usable_is}
use Rattle.placed_rules.specs.declared.placed.Placed.{Placed}
use Rattle.placed_rules.specs.declared.placed.Seating.{Seating}
use Rattle.placed_rules.specs.declared.placed.Seating.TheVariants as seating
use Rattle.placed_rules.specs.declared.pools.SharedPlan.{SharedPlan}
use Rattle.placed_rules.specs.Placed.{placed, placed_discipline, seats_with, served_in, shared_by, ticks_with}
use Rattle.run_plan.specs.Sound.{Sound}
use Rattle.run_plan.specs.declared.plan.Plan.{Plan}
use Rattle.run_tasks.specs.declared.task.Task.{Task}
use Rattle.spawn_core.specs.Stands.{KeptBy, StandsIn}
use Rattle.worker_run.specs.Fronts.{IsReady}
use Rattle.worker_run.specs.Lanes.{FitsLanes}

-- ---- pools that fit are usable as they are

usable_seating : (p : Plan) (y : Seating) → SoundSeating p y → usable_in p y ≡ y
usable_seating p seating.Own sound = refl
usable_seating p (seating.Pools xs n) sound =
    ap (λ (s : SharedPlan). seating.Pools s.pools n) (usable_is (shared_by p xs n) sound)

pub usable_eq : (b : Placed) → SoundSeating b.plan b.seating → usable_placed b ≡ b
usable_eq b sound =
    ap (λ (y : Seating). placed b.plan y b.ticks) (usable_seating b.plan b.seating sound)

-- ---- what the core stands by

module _ (b : Placed) (sound : SoundSeating b.plan b.seating) (c : KeptBy PlacedBerths)
    (stands : StandsIn (placed_discipline b) (StandsBy b) c []) where
  pub basis_eq : placed_by c.policy c.state.plan ≡ b
  basis_eq = ap (placed_by c.policy) stands.both.tables.plan
      ∙ basis_is b c.policy [] stands.both.own

  pub core_stands : StandsIn (placed_discipline (usable_placed (placed_by c.policy c.state.plan)))
      (StandsBy (placed_by c.policy c.state.plan)) c []
  core_stands = subst (λ (x : Placed). StandsIn (placed_discipline (usable_placed x))
      (StandsBy x) c []) (sym basis_eq)
      (subst (λ (x : Placed). StandsIn (placed_discipline x) (StandsBy b) c [])
      (sym (usable_eq b sound)) stands)

-- ---- the lane of Ticks

ticks_there : (ticks : Option ℕ) (served : ℕ)
    → ticks_with ticks served (proxy_lane served) ≡ is_some ticks
ticks_there None served = refl
ticks_there (Some n) served = eq-eqb (2 * served) (2 * served) refl

ticks_beside : (ticks : Option ℕ) (served : ℕ) → is_some ticks ≡ true → served < seats_with ticks served
ticks_beside None served e = absurd (cc)
ticks_beside (Some n) served e = omega arith

pub is_ready : (b : Placed) (t : Task) → Sound b.plan → SoundSeating b.plan b.seating
    → FitsLanes (placed_discipline b) t
    → IsReady (placed_discipline (usable_placed b)) t (is_some b.ticks)
is_ready b t sound seats fits =
    subst (λ (x : Placed). IsReady (placed_discipline x) t (is_some b.ticks)) (sym (usable_eq b seats))
    (record {
      sound = subst (λ (p : Plan). Sound p) fits.plan sound;
      fits = fits;
      ticks = ticks_there b.ticks (served_in b.plan b.seating);
      beside = ticks_beside b.ticks (served_in b.plan b.seating);
    })
