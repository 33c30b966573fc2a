-- The task on its plan's own berths fits its lanes.
use Rattle.std.proofs.Common.{◌∙◌, ap, map, refl, string_bytes, subst, sym}
use Rattle.run_plan.specs.Sound.{Sound}
use Rattle.run_plan.specs.declared.plan.Plan.{Plan}
use Rattle.run_values.specs.Runnable.{EachHasBerth}
use Rattle.tool_words.specs.Options.{options_of}
use Rattle.spawn_core.specs.Histories.{plan_of}
use Rattle.worker_run.proofs.Fits.{own_fits}
use Rattle.worker_run.proofs.OwnRun.{course_of_reading, own_promised}
use Rattle.worker_run.proofs.own.OwnFrontFront.read.Goals as goal

pub returns-in-Ok-new-clause-course : goal.returns-in-Ok-new-clause-course
returns-in-Ok-new-clause-course g c =
    let course = c.in-Ok.ensures.course in
    let is = ap plan_of c.watch.ensures ∙ c.in-Ok-new.ensures.both.tables.plan in
    (course.0, course.1, course.2, rw is course.3)

pub returns-in-Ok-new-clause-ready : goal.returns-in-Ok-new-clause-ready
returns-in-Ok-new-clause-ready g c =
    let is = ap plan_of c.watch.ensures
    ∙ (c.in-Ok-new.ensures.both.tables.plan ∙ c.in-Ok.ensures.sound.1) in
    record {
      sound = c.in-Ok.ensures.sound.0;
      fits = own_fits c.watch.new.self.state.plan c.in-Ok.made.0 is c.in-Ok.ensures.settings
          c.in-Ok.ensures.sound.0 c.in-Ok.ensures.work c.in-Ok.ensures.berths;
      ticks = refl;
      beside = λ e. absurd (cc);
    }

pub returns-in-Ok-new-clause-promised : goal.returns-in-Ok-new-clause-promised
returns-in-Ok-new-clause-promised g c =
    let is = ap plan_of c.watch.ensures
    ∙ (c.in-Ok-new.ensures.both.tables.plan ∙ c.in-Ok.ensures.sound.1) in
    λ j legal. own_promised c.watch.new.self.state.plan j
    (subst (λ (p : Plan). Sound p) (sym is) c.in-Ok.ensures.sound.0)
    (subst (λ (p : Plan). EachHasBerth p) (sym is) c.in-Ok.ensures.runnable) legal

pub returns-in-Err-clause-cause : goal.returns-in-Err-clause-cause
returns-in-Err-clause-cause g c =
    course_of_reading (options_of (map string_bytes c.args.words.now))
    (g.F.Floor.told c.args.floor.now) (g.F.Floor.told c.read_task.new.floor) c.in-Err.fault
    c.in-Err.ensures.course
