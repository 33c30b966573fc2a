-- The core of the task goes by its plan on its berths.
use Rattle.std.proofs.Common.{◌≡◌, Err, map, string_bytes, subst, sym}
use Rattle.core_contract.specs.Disciplines.{LegalBy}
use Rattle.placed_berths.specs.Basis.{usable_placed}
use Rattle.placed_rules.specs.declared.placed.Placed.{Placed}
use Rattle.placed_rules.specs.Placed.{placed_discipline}
use Rattle.placed_runs.proofs.Fits.{placed_fits, placed_seated, placed_sound}
use Rattle.placed_runs.proofs.PlacedSilent.{course_of_reading}
use Rattle.placed_runs.proofs.Promises.{placed_promised}
use Rattle.placed_runs.specs.Fronts.{PlacedPromised}
use Rattle.placed_tasks.specs.Course.{PlacedCourse}
use Rattle.placed_tasks.specs.Words.{run_options_of}
use Rattle.spawn_tasks.specs.Course.{SpawnLeads}
use Rattle.spawn_tasks.specs.declared.faults.NoSpawn.{NoSpawn}
use Rattle.worker_run.specs.Fronts.{IsReady}
use Rattle.placed_runs.proofs.placed_front.PlacedFrontFront.read.Goals as goal

pub made_with-requires-clause-plan : goal.made_with-requires-clause-plan
made_with-requires-clause-plan g c =
    let made = c.in-Ok.made in let p = made.placed in
    placed_sound made.task p.plan p.seating p.ticks c.in-Ok.ensures.runs.seated

pub made_with-requires-clause-seating : goal.made_with-requires-clause-seating
made_with-requires-clause-seating g c =
    let made = c.in-Ok.made in let p = made.placed in
    placed_seated made.task p.plan p.seating p.ticks c.in-Ok.ensures.runs.seated

pub made_with-requires-clause-fits : goal.made_with-requires-clause-fits
made_with-requires-clause-fits g c =
    let made = c.in-Ok.made in let p = made.placed in
    placed_fits made.task p.plan p.seating p.ticks c.in-Ok.ensures.runs.seated

pub returns-in-Ok-made_with-clause-ready : goal.returns-in-Ok-made_with-clause-ready
returns-in-Ok-made_with-clause-ready g c =
    let e = c.in-Ok-made_with.ensures in
    let made = c.in-Ok-made_with.made in
    subst (λ (b : Placed). IsReady (placed_discipline (usable_placed b)) made.task made.ticks)
    (sym e.basis) (rw (e.task) e.ready)

pub returns-in-Ok-made_with-clause-promised : goal.returns-in-Ok-made_with-clause-promised
returns-in-Ok-made_with-clause-promised g c =
    let made = c.in-Ok.made in let p = made.placed in
    let may = c.in-Ok.ensures.runs in
    λ j. subst (λ (b : Placed). LegalBy (placed_discipline (usable_placed b)) j → PlacedPromised b j)
    (sym c.in-Ok-made_with.ensures.basis)
    (placed_promised made.task p.plan p.seating p.ticks may.seated may.ticks j)

pub returns-in-Fault-clause-cause : goal.returns-in-Fault-clause-cause
returns-in-Fault-clause-cause g c =
    let options = run_options_of (map string_bytes c.args.words.now) in
    let before = g.F.Floor.told c.args.floor.now in
    let mid = g.F.Floor.told c.read_placed_task.new.floor in
    course_of_reading options before mid c.in-Fault.fault (subst (λ (w : NoSpawn).
    SpawnLeads before mid (Err w) (PlacedCourse options)) c.in-Fault.is c.in-Err.ensures.course)
