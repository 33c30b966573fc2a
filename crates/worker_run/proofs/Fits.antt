-- A task on the plan's own berths fits its lanes.
use Rattle.std.proofs.Common.{◌≡◌, arith, refl, subst, sym}
use Rattle.core_contract.specs.Disciplines.{own_discipline}
use Rattle.run_plan.specs.Sound.{Sound}
use Rattle.run_plan.specs.declared.plan.Plan.{Plan}
use Rattle.run_tasks.specs.Tasks.{HasBerths, HasSettings, HasWork}
use Rattle.run_tasks.specs.declared.task.Task.{Task}
use Rattle.worker_run.specs.Lanes.{FitsLanes}

pub own_fits : (p : Plan) (t : Task) → p ≡ t.plan → HasSettings t → Sound t.plan → HasWork t
    → HasBerths t.plan → FitsLanes (own_discipline p) t
own_fits p t is settings sound work has =
    subst (λ (p : Plan). FitsLanes (own_discipline p) t) (sym is) (record {
      plan = refl;
      commanded = settings.commanded;
      served = settings.as_many;
      seats = omega arith;
      few = sound.seats;
      speeches = settings.fit;
      work = work;
      actions = (let some = work.as_many in let few = sound.actions in omega (arith, some, few));
      settled = has;
    })
