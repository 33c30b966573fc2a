use Rattle.std.proofs.Common.{◌∙◌, ap, rules}
use Rattle.run_tasks.proofs.Fits.{as_many_parts, fits}
use Rattle.run_tasks.specs.Setup.{commands_for, speeches_for}
use Rattle.run_tasks.proofs.task.task_of.Goals as goal

pub speeches_of-requires : goal.speeches_of-requires
speeches_of-requires c =
    as_many_parts c.args.list.now.actions c.in_ok-plan.plan c.as_slice.result.now
    c.as_str.result.now c.as_slice-3.result.now (search rules)

pub returns-clause-settings : goal.returns-clause-settings
returns-clause-settings c =
    let plan = c.in_ok-plan.plan in
    let made = c.in_ok-parts.ensures in
    let fit =
    fits c.args.list.now.actions plan c.as_slice.result.now c.as_str.result.now
    c.in_ok-commands.commands.items c.in_ok-speeches.speeches.items
    (c.in_ok-commands.ensures ∙ ap commands_for (c.as_slice-2.ensures.value ∙ made))
    (c.in_ok-speeches.ensures ∙ ap (speeches_for plan) (c.as_slice-3.ensures.value ∙ made)) in
    record { commanded = fit.commanded; as_many = fit.as_many; fit = fit.fit }
