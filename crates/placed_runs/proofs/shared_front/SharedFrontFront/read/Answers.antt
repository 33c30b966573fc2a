-- The core of the task goes by its pools.
use Rattle.std.proofs.Common.{◌≡◌, ◌∙◌, refl, subst, sym}
use Rattle.core_contract.specs.Disciplines.{LegalBy}
use Rattle.placed_berths.specs.Basis.{usable_placed}
use Rattle.placed_rules.specs.declared.placed.Placed.{Placed}
use Rattle.placed_rules.specs.Placed.{placed_discipline}
use Rattle.placed_runs.specs.Fronts.{SharedPromised}
use Rattle.placed_runs.proofs.Promises.{shared_promised}
use Rattle.run_plan.specs.Sound.{Sound}
use Rattle.run_plan.specs.declared.plan.Plan.{Plan}
use Rattle.placed_runs.proofs.shared_front.SharedFrontFront.read.Goals as goal

pub returns-in-Ok-made_with-clause-course : goal.returns-in-Ok-made_with-clause-course
returns-in-Ok-made_with-clause-course g c =
    let may = c.in-Ok.ensures.runs in
    let course = c.in-Ok.ensures.course in
    let e = c.in-Ok-made_with.ensures in (
      course.0,
      course.1,
      course.2,
      rw (e.task) (c.in-Ok.made.shared, may.plan, e.basis ∙ c.placed_on.ensures, course.3),
    )

pub returns-in-Ok-made_with-clause-promised : goal.returns-in-Ok-made_with-clause-promised
returns-in-Ok-made_with-clause-promised g c =
    let may = c.in-Ok.ensures.runs in
    λ j. subst (λ (b : Placed). LegalBy (placed_discipline (usable_placed b)) j → SharedPromised b j)
    (sym (c.in-Ok-made_with.ensures.basis ∙ c.placed_on.ensures))
    (shared_promised c.in-Ok.made.shared may.pools
    (subst (λ (p : Plan). Sound p) (sym may.plan) may.sound) may.runnable j)
