-- The core of the task goes by the basis of its delay.
use Rattle.std.proofs.Common.{◌≡◌, Err, map, string_bytes, subst, sym}
use Rattle.core_contract.specs.Disciplines.{LegalBy}
use Rattle.placed_runs.specs.Fronts.{SpawnPromised}
use Rattle.placed_berths.specs.Basis.{usable_placed}
use Rattle.placed_rules.specs.declared.placed.Placed.{Placed}
use Rattle.placed_rules.specs.Placed.{placed_discipline}
use Rattle.worker_run.specs.Fronts.{IsReady}
use Rattle.placed_runs.proofs.Promises.{spawn_promises}
use Rattle.placed_runs.proofs.StrategicSilent.{course_of_reading}
use Rattle.spawn_strategies.specs.SpawnOptions.{spawn_options_of}
use Rattle.spawn_tasks.specs.Course.{SpawnCourse, SpawnLeads}
use Rattle.spawn_tasks.specs.declared.faults.NoSpawn.{NoSpawn}
use Rattle.placed_runs.proofs.spawn_front.SpawnFrontFront.read.Goals as goal

pub returns-in-Ok-spawned-clause-ready : goal.returns-in-Ok-spawned-clause-ready
returns-in-Ok-spawned-clause-ready g c =
    let e = c.in-Ok-spawned.ensures in
    let made = c.in-Ok-spawned.made in
    subst (λ (b : Placed). IsReady (placed_discipline (usable_placed b)) made.task made.ticks)
    (sym e.basis) (rw (e.task) e.ready)

pub returns-in-Ok-spawned-clause-promised : goal.returns-in-Ok-spawned-clause-promised
returns-in-Ok-spawned-clause-promised g c =
    let made = c.in-Ok.made in
    let may = c.in-Ok.ensures.runs in
    λ j. subst (λ (b : Placed). LegalBy (placed_discipline (usable_placed b)) j → SpawnPromised b j)
    (sym c.in-Ok-spawned.ensures.basis)
    (spawn_promises made.delay made.task.plan may.sound may.runnable j)

pub returns-in-Fault-clause-cause : goal.returns-in-Fault-clause-cause
returns-in-Fault-clause-cause g c =
    let options = spawn_options_of (map string_bytes c.args.words.now) in
    let before = g.F.Floor.told c.args.floor.now in
    let mid = g.F.Floor.told c.read_spawn_task.new.floor in
    course_of_reading options before mid c.in-Fault.fault (subst (λ (w : NoSpawn).
    SpawnLeads before mid (Err w) (SpawnCourse options)) c.in-Fault.is c.in-Err.ensures.course)
