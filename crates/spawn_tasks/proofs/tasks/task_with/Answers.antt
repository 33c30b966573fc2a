use Rattle.std.proofs.Common.{◌∙◌, ap, length}
use Rattle.spawn_tasks.proofs.Placing.{are_parts}
use Rattle.spawn_tasks.proofs.tasks.task_with.Goals as goal

pub speeches_of-requires : goal.speeches_of-requires
speeches_of-requires c =
    let are = are_parts c.args.options.now c.args.list.now.actions c.args.plan in
    ap length (c.as_slice-2.ensures.value ∙ c.in_ok-parts.ensures) ∙ are.as_many
