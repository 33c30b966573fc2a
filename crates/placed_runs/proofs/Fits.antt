-- A task fits the lanes of its berths, with Ticks or without.
use Rattle.std.proofs.Common.{◌≡◌, ◌≤◌, ℕ, Bool, true, false, cond, length, Option, Some, None, arith, ap, refl, sym, subst, ◌∙◌}
use Rattle.std.specs.Prelude.{unwrap_or}
use Rattle.placed_berths.specs.Basis.{SoundSeating}
use Rattle.placed_rules.specs.declared.placed.Seating.{Seating}
use Rattle.placed_rules.specs.declared.placed.Seating.TheVariants.{Own, Pools}
use Rattle.placed_rules.specs.Placed.{on_own, placed, placed_discipline, pooled_discipline, seats_with, shared_by}
use Rattle.placed_tasks.specs.Tasks.{MayBeOn}
use Rattle.placed_rules.specs.Pools.{is_remote_berth, seats}
use Rattle.run_plan.specs.declared.plan.Kind.TheVariants as kind
use Rattle.run_plan.specs.declared.plan.Plan.{Plan}
use Rattle.run_plan.specs.Groups.{berths, is_remote}
use Rattle.run_plan.specs.Sound.{Sound}
use Rattle.run_tasks.specs.Tasks.{HasBerths, HasSettings, HasWork}
use Rattle.run_tasks.specs.declared.task.Task.{Task}
use Rattle.shared_tasks.specs.declared.reading.SharedTask.{SharedTask}
use Rattle.shared_tasks.specs.Tasks.{MayBeShared}
use Rattle.spawn_tasks.specs.declared.tasks.SpawnTask.{SpawnTask}
use Rattle.spawn_tasks.specs.Tasks.{MayBeSpawned}
use Rattle.worker_run.specs.Lanes.{FitsLanes}

-- ---- on the berths of pools

kind_remote : (b : Bool) → is_remote (cond b kind.Remote kind.Single) ≡ b
kind_remote true = refl
kind_remote false = refl

-- with Ticks one berth more stands behind those that are served
seats_fit : (ticks : Option ℕ) (served : ℕ) → served ≤ seats_with ticks served
seats_fit None served = omega arith
seats_fit (Some n) served = omega arith

pub pooled_fits : (made : SharedTask) (ticks : Option ℕ) → MayBeShared made
    → FitsLanes (pooled_discipline made.shared ticks) made.task
pooled_fits made ticks may = record {
  plan = may.plan;
  commanded = may.commanded;
  served = may.as_many;
  seats = seats_fit ticks (seats made.shared);
  few = may.pools.berths;
  speeches = λ w s at. may.speeches w s at ∙ sym (kind_remote (is_remote_berth made.shared w));
  work = may.work;
  actions = (let many = may.work.as_many in let few = may.sound.actions in
      let same = ap (λ (p : Plan). length p.actions) may.plan in omega (arith, many, few, same));
  settled = may.actions;
}

-- ---- on own berths

module _ (t : Task) (sound : Sound t.plan) (settings : HasSettings t) (work : HasWork t)
    (has : HasBerths t.plan) where
  on_its_own : (ticks : Option ℕ) → FitsLanes (placed_discipline (on_own t.plan ticks)) t
  on_its_own ticks = record {
    plan = refl;
    commanded = settings.commanded;
    served = settings.as_many;
    seats = seats_fit ticks (berths t.plan);
    few = sound.seats;
    speeches = settings.fit;
    work = work;
    actions = (let some = work.as_many in let few = sound.actions in omega (arith, some, few));
    settled = has;
  }

pub spawn_fits : (made : SpawnTask) (ticks : Option ℕ) → MayBeSpawned made
    → FitsLanes (placed_discipline (on_own made.twin ticks)) made.task
spawn_fits made ticks may =
    subst (λ (p : Plan). FitsLanes (placed_discipline (on_own p ticks)) made.task) (sym may.twin)
    (on_its_own made.task may.sound may.settings may.work may.berths ticks)

-- ---- on either

pub placed_sound : (t : Task) (p : Plan) (y : Seating) (ticks : Option ℕ)
    → MayBeOn y (record { task = t; placed = placed p y ticks }) → Sound p
placed_sound t p Own ticks may = subst (λ (q : Plan). Sound q) (sym may.twin) may.sound
placed_sound t p (Pools xs n) ticks may = subst (λ (q : Plan). Sound q) (sym may.plan) may.sound

pub placed_seated : (t : Task) (p : Plan) (y : Seating) (ticks : Option ℕ)
    → MayBeOn y (record { task = t; placed = placed p y ticks }) → SoundSeating p y
placed_seated t p Own ticks may = tt
placed_seated t p (Pools xs n) ticks may = may.pools

pub placed_fits : (t : Task) (p : Plan) (y : Seating) (ticks : Option ℕ)
    → MayBeOn y (record { task = t; placed = placed p y ticks })
    → FitsLanes (placed_discipline (placed p y ticks)) t
placed_fits t p Own ticks may =
    spawn_fits (record { task = t; twin = p; delay = unwrap_or ticks 0 }) ticks may
placed_fits t p (Pools xs n) ticks may =
    pooled_fits (record { task = t; shared = shared_by p xs n }) ticks may
