use Rattle.std.proofs.Common.{◌∙◌, ap, length}
use Rattle.spawn_tasks.proofs.Placing.{are_parts}
use Rattle.placed_tasks.proofs.tasks.placed_task_of.Goals as goal

pub task_on-requires-clause-parts : goal.task_on-requires-clause-parts
task_on-requires-clause-parts c =
    let are = are_parts c.args.options.now.given c.args.list.now.actions c.in_ok-plan.plan in
    ap length (c.as_slice-3.ensures.value ∙ c.in_ok-parts.ensures) ∙ are.as_many
