use Rattle.std.proofs.Common.{length, reverse, ap, ◌∙◌, arith}
use Rattle.exec_journal.specs.declared.ends.ActionEnd.{ActionEnd}
use Rattle.build_report.proofs.Statuses.{length-ends}
use Rattle.build_report.proofs.telling.report.Goals as goal

pub report_text-requires : goal.report_text-requires
report_text-requires c =
    let many = c.requires.actions in
    let n = ap (length {A = ActionEnd}) (c.as_slice.ensures.value ∙ c.in_ok-ends.ensures) ∙ length-ends c.args.plan.now (reverse c.args.j.now) in
    omega arith
