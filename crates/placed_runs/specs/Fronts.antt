-- What the fronts read, and what they promise.
use Rattle.std.specs.Prelude.{◌≡◌, ◌*◌, ◌+◌, ℕ, List, [], Option, Some, None, Result, Ok, Err}
use Rattle.core_contract.specs.Disciplines.{own_discipline}
use Rattle.exec_journal.specs.Entry.{Entry}
use Rattle.exec_journal.specs.Kept.{Kept}
use Rattle.outside.specs.declared.floor.FloorRead.{FloorRead}
use Rattle.placed_rules.specs.declared.placed.Placed.{Placed}
use Rattle.placed_rules.specs.declared.placed.Seating.{Seating}
use Rattle.placed_rules.specs.declared.placed.Seating.TheVariants.{Own, Pools}
use Rattle.placed_rules.specs.declared.pools.SharedPlan.{SharedPlan}
use Rattle.placed_rules.specs.declared.pools.SharedPool.{SharedPool}
use Rattle.placed_rules.specs.Own.{delayed_seats}
use Rattle.placed_rules.specs.Placed.{delayed_discipline, on_own, on_pools, shared_by, shared_discipline}
use Rattle.placed_rules.specs.Pools.{seats, usable}
use Rattle.placed_tasks.specs.Course.{PlacedCourse}
use Rattle.placed_tasks.specs.Tasks.{ticks_for}
use Rattle.placed_tasks.specs.Words.{run_options_of}
use Rattle.placed_tasks.specs.declared.tasks.PlacedTask.{PlacedTask}
use Rattle.progress_laws.specs.Few.{CallsAreFew, DelayedCallsAreFew}
use Rattle.progress_laws.specs.Moments.{NeverStuck}
use Rattle.run_plan.specs.Groups.{berths}
use Rattle.run_plan.specs.declared.plan.Plan.{Plan}
use Rattle.run_tasks.specs.declared.task.Task.{Task}
use Rattle.shared_tasks.specs.Course.{SharedCourse}
use Rattle.shared_tasks.specs.Words.{shared_options_of}
use Rattle.spawn_strategies.specs.SpawnOptions.{spawn_options_of}
use Rattle.spawn_tasks.specs.Course.{SpawnCourse}
use Rattle.spawn_tasks.specs.declared.faults.NoSpawn.TheVariants as spawn
use Rattle.spawn_tasks.specs.declared.tasks.SpawnTask.{SpawnTask}
use Rattle.worker_run.specs.declared.front.NoRun.{NoRun}
use Rattle.worker_run.specs.declared.front.NoRun.TheVariants as no

-- ---- shared berths

-- By the words' options, the reads led to a task and to its plan on the berths of pools, where no
-- branch waits, or to a fault.
abbrev pub shared_course : List (List ℕ) → List FloorRead → Result (Task × Placed) NoRun → Type 0
shared_course words reads (Ok made) = (q : SharedPlan) × (q.plan ≡ made.0.plan)
    × (made.1 ≡ on_pools q None)
    × SharedCourse (shared_options_of words) reads (Ok (record { task = made.0; shared = q }))
shared_course words reads (Err (no.Fault f)) = SharedCourse (shared_options_of words) reads (Err f)
shared_course words reads (Err (no.NoStrategy action)) = ⊥

-- the pools of such a basis; on own berths there are none
abbrev pub pools_at : Seating → List SharedPool
pools_at Own = []
pools_at (Pools pools instances) = pools

abbrev pub instances_at : Seating → ℕ
instances_at Own = 0
instances_at (Pools pools instances) = instances

abbrev pub pools_in : Placed → SharedPlan
pools_in b = shared_by b.plan (pools_at b.seating) (instances_at b.seating)

-- What a legal journal of pools has: they are usable as they are; at no moment did all lanes rest,
-- unless all had left, or some process owed an answer or its end; and it has few entries.
pub record PoolsEnd (q : SharedPlan) (j : List Entry) : Type 0 where
  pub usable : usable q ≡ q
  pub awaited : NeverStuck (shared_discipline q) (2 * seats q) j
  pub few : CallsAreFew q.plan (2 * seats q) j

-- so of a basis, which is one of pools
pub record SharedPromised (b : Placed) (j : List Entry) : Type 0 where
  pub pools : b ≡ on_pools (pools_in b) None
  pub ends : PoolsEnd (pools_in b) j

-- ---- strategies

-- the plan on its own berths, with this delay
abbrev pub spawn_basis : ℕ → Plan → Placed
spawn_basis n p = on_own p (ticks_for n)

-- By the words' options, the reads led to a task and the basis of its delay, to a fault, or to an
-- action that no strategy supports.
abbrev pub spawn_course : List (List ℕ) → List FloorRead → Result (Task × Placed) NoRun → Type 0
spawn_course words reads (Ok read) = (made : SpawnTask)
    × SpawnCourse (spawn_options_of words) reads (Ok made)
    × (read.0 ≡ made.task) × (read.1 ≡ spawn_basis made.delay made.task.plan)
spawn_course words reads (Err (no.Fault f)) =
    SpawnCourse (spawn_options_of words) reads (Err (spawn.Fault f))
spawn_course words reads (Err (no.NoStrategy action)) =
    SpawnCourse (spawn_options_of words) reads (Err (spawn.NoStrategy action))

-- Each order was due; at no moment did all lanes rest, unless all had left, or some process owed an
-- answer or its end; and the journal has few entries.
pub record OwnEnds (p : Plan) (j : List Entry) : Type 0 where
  pub kept : Kept p j
  pub awaited : NeverStuck (own_discipline p) (2 * berths p) j
  pub few : CallsAreFew p (2 * berths p) j

-- so with a delay, which is one
pub record DelayedEnds (p : Plan) (n : ℕ) (j : List Entry) : Type 0 where
  pub some : n ≡ 0 → ⊥
  pub awaited : NeverStuck (delayed_discipline p n) (2 * berths p + 1) j
  pub few : DelayedCallsAreFew p n (2 * delayed_seats p) j

abbrev pub ends_with : Option ℕ → Plan → List Entry → Type 0
ends_with None p j = OwnEnds p j
ends_with (Some n) p j = DelayedEnds p n j

-- so of a basis, which is one of own berths
pub record SpawnPromised (b : Placed) (j : List Entry) : Type 0 where
  pub own : b ≡ on_own b.plan b.ticks
  pub ends : ends_with b.ticks b.plan j

-- ---- all options

-- By the words' options, the reads led to a task and its plan on its berths, to a fault, or to an
-- action that no strategy supports.
abbrev pub placed_course : List (List ℕ) → List FloorRead → Result (Task × Placed) NoRun → Type 0
placed_course words reads (Ok read) = (made : PlacedTask)
    × PlacedCourse (run_options_of words) reads (Ok made)
    × (read.0 ≡ made.task) × (read.1 ≡ made.placed)
placed_course words reads (Err (no.Fault f)) =
    PlacedCourse (run_options_of words) reads (Err (spawn.Fault f))
placed_course words reads (Err (no.NoStrategy action)) =
    PlacedCourse (run_options_of words) reads (Err (spawn.NoStrategy action))

-- What a legal journal of these berths has: on own berths what there is with and without a delay, on
-- those of pools what there is without one. With a delay they are usable as they are.
abbrev pub ends_on : Plan → Seating → Option ℕ → List Entry → Type 0
ends_on p Own ticks j = ends_with ticks p j
ends_on p (Pools pools instances) None j = PoolsEnd (shared_by p pools instances) j
ends_on p (Pools pools instances) (Some n) j =
    usable (shared_by p pools instances) ≡ shared_by p pools instances

abbrev pub PlacedPromised : Placed → List Entry → Type 0
PlacedPromised b j = ends_on b.plan b.seating b.ticks j
