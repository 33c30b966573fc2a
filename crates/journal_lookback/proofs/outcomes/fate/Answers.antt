use Rattle.std.proofs.Common.{List, get_or, ap, sym, ◌∙◌, reverse}
use Rattle.exec_journal.specs.Entry.{Entry}
use Rattle.run_plan.specs.declared.plan.PlanAction.{PlanAction}
use Rattle.exec_journal.specs.Outcomes.{fate_after}
use Rattle.journal_lookback.proofs.Judged.{fate_read}
use Rattle.journal_lookback.proofs.outcomes.fate.Goals as goal

pub returns : goal.returns
returns c =
    let work = c.index-as_slice-action.result in
    c.fate_in.ensures
    ∙ ap (λ (es : List Entry). fate_after c.args.plan.now (reverse es) c.args.action c.args.branch c.group.result) c.entries.ensures
    ∙ ap (fate_after c.args.plan.now (reverse c.args.j.now) c.args.action c.args.branch) c.group.ensures
    ∙ sym (fate_read c.args.plan.now (reverse c.args.j.now) c.args.action c.args.branch work c.requires.within
    (c.index-as_slice-action.is ∙ ap (λ (xs : List PlanAction). get_or xs c.args.action work) c.as_slice.ensures))
