use Rattle.std.proofs.Common.{ap, sym, subst, ◌∙◌}
use Rattle.std.specs.Prelude.{IfSome}
use Rattle.run_plan.specs.Sound.{Sound}
use Rattle.run_tasks.specs.declared.task.Task.{Task}
use Rattle.worker_run.specs.Seen.{EndedTold}
use Rattle.run_console.proofs.telling.tell_ended.Goals as goal

pub tell_reasons-requires : goal.tell_reasons-requires
tell_reasons-requires g c = subst (λ o. IfSome o (λ (t : Task). Sound t.plan)) (sym (ap (λ (e : EndedTold). e.task) c.ended.view_is) ∙ c.in-Some-task.is) c.requires

pub unsuccessful-requires : goal.unsuccessful-requires
unsuccessful-requires g c = subst (λ o. IfSome o (λ (t : Task). Sound t.plan)) (sym (ap (λ (e : EndedTold). e.task) c.ended.view_is) ∙ c.in-Some-task.is) c.requires
