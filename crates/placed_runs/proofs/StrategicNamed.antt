-- What the run by strategies keeps, in a record of its own.
use Rattle.std.proofs.Common.{◌≡◌, ◌∙◌, ◌*◌, ◌==◌, ℕ, Bool, zero, suc, true, List, Option, Some, None, IfSome, Result, Ok, Err, ap, refl, subst, sym, eq-eqb}
use Rattle.build_report.specs.declared.fault.RunFault.{RunFault}
use Rattle.core_contract.specs.Discipline.{Discipline}
use Rattle.exec_journal.specs.Entry.{Entry}
use Rattle.exec_journal.specs.Kept.{Kept}
use Rattle.outside.specs.Told.{FloorTold}
use Rattle.outside.specs.declared.floor.FloorRead.{FloorRead}
use Rattle.placed_berths.specs.Basis.{usable_in, usable_placed}
use Rattle.placed_rules.specs.declared.placed.Placed.{Placed}
use Rattle.placed_rules.specs.declared.placed.Seating.{Seating}
use Rattle.placed_rules.specs.Kept.{PlacedKept}
use Rattle.placed_rules.specs.Placed.{on_own, placed, placed_discipline, served_in}
use Rattle.placed_runs.specs.Fronts.{DelayedEnds, OwnEnds, SpawnPromised, spawn_basis, spawn_course}
use Rattle.placed_runs.specs.StrategicHeadline.{IsFewSpawned, SpawnKeeps, SpawnPaces, SpawnRead, StrategicKeeps, few_by, spawn_kept, spawn_lanes, spawn_rules}
use Rattle.placed_tasks.specs.Tasks.{ticks_for}
use Rattle.run_plan.specs.declared.plan.Plan.{Plan}
use Rattle.run_tasks.specs.declared.task.Task.{Task}
use Rattle.spawn_strategies.specs.SpawnOptions.{spawn_options_of}
use Rattle.spawn_tasks.specs.declared.tasks.SpawnTask.{SpawnTask}
use Rattle.worker_run.proofs.Fronts.{course_by}
use Rattle.worker_run.proofs.Keeping.{IsAs, keeps_as, on_both}
use Rattle.worker_run.specs.Ends.{LeadsTo}
use Rattle.worker_run.specs.Fronts.{BasisKeeps, EndsBy, HasReadBy, Paces, PacesWhere}
use Rattle.worker_run.specs.Headline.{AreRulesOf, IsNeverStuck, OnRun, UnlessRun, newest_first}
use Rattle.worker_run.specs.Pacing.{PacesRun}
use Rattle.worker_run.specs.Seen.{EndedTold, Left}

abbrev rules_of : Placed → Discipline
rules_of x = placed_discipline (usable_placed x)

abbrev orders_of : Placed → List Entry → Type 0
orders_of x = PlacedKept (usable_placed x)

-- for so many Ticks a local branch waits
abbrev delay_in : Option ℕ → ℕ
delay_in None = 0
delay_in (Some n) = n

delay_is : (n : ℕ) → delay_in (ticks_for n) ≡ n
delay_is zero = refl
delay_is (suc n) = refl

module _ (words : List (List ℕ)) (before : FloorTold) (end : EndedTold) where
  abbrev Keeps : Placed → Type 0
  Keeps b = BasisKeeps (spawn_course words) rules_of orders_of SpawnPromised before end b

  read_so : (b : Placed) (reads : List FloorRead) (made : Result (Task × Placed) RunFault)
      → HasReadBy (spawn_course words) b reads made
      → (also : Result SpawnTask RunFault)
      × SpawnRead (delay_in b.ticks) (spawn_options_of words) reads also
      × (LeadsTo (λ x. x.0) made end.fault end.task
      → LeadsTo (λ (x : SpawnTask). x.task) also end.fault end.task)
  read_so b reads (Ok m) h = (
    Ok h.0.0,
    (
      h.0.1,
      sym (delay_is h.0.0.delay)
          ∙ ap (λ (x : Placed). delay_in x.ticks) (sym h.0.3 ∙ h.1),
    ),
    λ led. subst (λ (t : Task). LeadsTo (λ (x : SpawnTask). t) (Ok h.0.0) end.fault end.task) h.0.2 led,
  )
  read_so b reads (Err f) h = (Err f, (h.0, tt), λ led. led)

  -- the task's plan on its own berths
  basis_is : (b : Placed) (t : Task) (x : Left) → AreRulesOf (λ t. rules_of b) t x
      → SpawnPromised b (newest_first x) → usable_placed b ≡ on_own t.plan b.ticks
  basis_is b t x r h = ap usable_placed h.own ∙ ap (λ (p : Plan). on_own p b.ticks) r.plan

  module _ (p : Plan) (y : Seating) (ticks : Option ℕ) where
    abbrev b : Placed
    b = placed p y ticks

    abbrev n : ℕ
    n = delay_in ticks

    abbrev Rules : Task → Left → Type 0
    Rules = AreRulesOf (λ t. rules_of b)

    abbrev Has : Task → Left → Type 0
    Has t x = SpawnPromised b (newest_first x)

    abbrev As : Task → Left → Type 0
    As = IsAs (λ t. rules_of b) (spawn_rules n) (λ t. orders_of b) (spawn_kept n)

    abbrev Awaited : Task → Left → Type 0
    Awaited = IsNeverStuck (spawn_rules n) (spawn_lanes n)

    keeps_by : {W : Type 0} (told : W → ℕ) (pacer after : W)
        → ((t : Task) (x : Left) → Rules t x → Has t x → As t x)
        → ((t : Task) (x : Left) → Rules t x → Has t x → Awaited t x)
        → ((t : Task) (x : Left) → Rules t x → Has t x → IsFewSpawned n t x)
        → Keeps b → SpawnPaces told n pacer after end
        → SpawnKeeps (spawn_options_of words) before told pacer after end
    keeps_by told pacer after alike awaited few k paces = record {
      delay = n;
      course = course_by (HasReadBy (spawn_course words) b)
          (SpawnRead n (spawn_options_of words)) (λ x. x.0) (λ x. x.task) before end
          (read_so b) k.course;
      task = keeps_as (λ t. rules_of b) (spawn_rules n) (λ t. orders_of b) (spawn_kept n) before end
          (on_both end Rules Has As alike k.task.of_task k.promised) k.task;
      awaited = on_both end Rules Has Awaited awaited k.task.of_task k.promised;
      few = on_both end Rules Has (IsFewSpawned n) few k.task.of_task k.promised;
      paces = paces;
    }

  -- ---- without a delay

  module _ (p : Plan) (y : Seating) where
    own_alike : (t : Task) (x : Left) → Rules p y None t x → Has p y None t x → As p y None t x
    own_alike t x r h = record {
      same = ap placed_discipline (basis_is (placed p y None) t x r h);
      kept = λ kept. subst (λ (q : Plan). Kept q (newest_first x)) r.plan h.ends.kept;
    }

    own_ends : (t : Task) (x : Left) → Rules p y None t x → Has p y None t x
        → OwnEnds t.plan (newest_first x)
    own_ends t x r h = subst (λ (q : Plan). OwnEnds q (newest_first x)) r.plan h.ends

    own_keeps : {W : Type 0} (told : W → ℕ) (pacer after : W) → Keeps (placed p y None)
        → after ≡ pacer → SpawnKeeps (spawn_options_of words) before told pacer after end
    own_keeps told pacer after k paces = keeps_by p y None told pacer after own_alike
        (λ t x r h. (own_ends t x r h).awaited) (λ t x r h. (own_ends t x r h).few) k paces

  -- ---- with a delay

  module _ (p : Plan) (y : Seating) where
    ends : (n : ℕ) (t : Task) (x : Left) → Rules p y (Some n) t x → Has p y (Some n) t x
        → DelayedEnds t.plan n (newest_first x)
    ends n t x r h = subst (λ (q : Plan). DelayedEnds q n (newest_first x)) r.plan h.ends

    alike : (n : ℕ) (t : Task) (x : Left) → Rules p y (Some n) t x → Has p y (Some n) t x
        → As p y (Some n) t x
    alike zero t x r h = absurd (h.ends.some refl)
    alike (suc n) t x r h = record {
      same = ap placed_discipline (basis_is (placed p y (Some (suc n))) t x r h);
      kept = λ kept. subst (λ (s : Placed). PlacedKept s (newest_first x))
          (basis_is (placed p y (Some (suc n))) t x r h) kept;
    }

    awaited : (n : ℕ) (t : Task) (x : Left) → Rules p y (Some n) t x → Has p y (Some n) t x
        → IsNeverStuck (spawn_rules n) (spawn_lanes n) t x
    awaited zero t x r h = absurd (h.ends.some refl)
    awaited (suc n) t x r h = (ends (suc n) t x r h).awaited

    few : (n : ℕ) (t : Task) (x : Left) → Rules p y (Some n) t x → Has p y (Some n) t x
        → IsFewSpawned n t x
    few zero t x r h = absurd (h.ends.some refl)
    few (suc n) t x r h = (ends (suc n) t x r h).few

    -- a lane of Ticks is there
    ticks_there : {W : Type 0} (told : W → ℕ) (pacer after : W) (n : ℕ)
        → Paces (rules_of (placed p y (Some n))) told pacer after end
        → PacesRun told (Some pacer) (Some after) end
    ticks_there told pacer after n paces =
        let served = served_in p (usable_in p y) in
        subst (λ (c : Bool). PacesWhere c told pacer after end)
        (eq-eqb (2 * served) (2 * served) refl) paces

    -- with no Ticks to wait for nothing was run
    paces_none : {W : Type 0} (told : W → ℕ) (pacer after : W) → OnRun end (Has p y (Some 0))
        → PacesRun told (Some pacer) (Some after) end → after ≡ pacer
    paces_none told pacer after has paces = by end.task has paces.none
      where
        by : (o : Option Task) → IfSome o (λ t. Has p y (Some 0) t end.left)
            → UnlessRun o (Some after ≡ Some pacer) → after ≡ pacer
        by None has none = let is : after ≡ pacer = cc in is
        by (Some t) has none = absurd (has.ends.some refl)

    spawn_paces : {W : Type 0} (told : W → ℕ) (pacer after : W) (n : ℕ)
        → OnRun end (Has p y (Some n)) → PacesRun told (Some pacer) (Some after) end
        → SpawnPaces told n pacer after end
    spawn_paces told pacer after zero has paces = paces_none told pacer after has paces
    spawn_paces told pacer after (suc n) has paces = paces

    delayed_keeps : {W : Type 0} (told : W → ℕ) (pacer after : W) (n : ℕ)
        → Keeps (placed p y (Some n)) → Paces (rules_of (placed p y (Some n))) told pacer after end
        → SpawnKeeps (spawn_options_of words) before told pacer after end
    delayed_keeps told pacer after n k paces = keeps_by p y (Some n) told pacer after
        (alike n) (awaited n) (few n) k
        (spawn_paces told pacer after n k.promised (ticks_there told pacer after n paces))

  -- ---- all of it

  by_ticks : {W : Type 0} (told : W → ℕ) (pacer after : W) (p : Plan) (y : Seating)
      (ticks : Option ℕ) → Keeps (placed p y ticks)
      → Paces (rules_of (placed p y ticks)) told pacer after end
      → SpawnKeeps (spawn_options_of words) before told pacer after end
  by_ticks told pacer after p y None k paces = own_keeps p y told pacer after k paces
  by_ticks told pacer after p y (Some n) k paces = delayed_keeps p y told pacer after n k paces

  pub spawn_keeps : {W : Type 0} (told : W → ℕ) (pacer after : W) (refused : Option ℕ)
      → EndsBy (spawn_course words) rules_of orders_of SpawnPromised before told pacer after end
      refused
      → StrategicKeeps (spawn_options_of words) before told pacer after end refused
  spawn_keeps told pacer after None h =
      by_ticks told pacer after h.0.plan h.0.seating h.0.ticks h.1 h.2
  spawn_keeps told pacer after (Some action) h = record {
    course = h.course;
    status = h.status;
    fault = h.fault;
    task = h.task;
    left = h.left;
    floor = h.floor;
    counts = h.counts;
    back = h.back;
  }
