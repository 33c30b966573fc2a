use Rattle.std.proofs.Common.{List, length, reverse, ap, sym, ◌∙◌}
use Rattle.exec_journal.specs.Entry.{Entry}
use Rattle.run_plan.specs.declared.plan.PlanAction.{PlanAction}
use Rattle.journal_ends.specs.declared.endings.Verdict.{Verdict}
use Rattle.journal_ends.specs.Endings.{verdicts_from}
use Rattle.journal_ends.proofs.Ended.{length-verdicts, ends_whole}
use Rattle.journal_ends.proofs.endings.action_ends.Goals as goal

pub standings_by-requires : goal.standings_by-requires
standings_by-requires c =
    ap (length {A = Verdict}) (c.as_slice.ensures.value ∙ c.in_ok-verdicts.ensures) ∙ length-verdicts c.args.plan.now (reverse c.entries.result.now) 0 c.args.plan.now.actions
    ∙ sym (ap (length {A = PlanAction}) c.as_slice-works.ensures)

pub ends_by-requires : goal.ends_by-requires
ends_by-requires c =
    ap (length {A = Verdict}) (c.as_slice-2.ensures.value ∙ c.in_ok-verdicts.ensures) ∙ length-verdicts c.args.plan.now (reverse c.entries.result.now) 0 c.args.plan.now.actions
    ∙ sym (ap (length {A = PlanAction}) c.as_slice-works.ensures)

pub returns : goal.returns
returns c =
    let p = c.args.plan.now in
    ends_whole p (reverse c.args.j.now) c.in_ok-ends.ends.items c.in_ok-standings.standings.items c.as_slice-3.result.now c.in_ok-verdicts.verdicts.items c.as_slice.result.now c.as_slice-2.result.now c.as_slice-works.result.now
    c.as_slice-works.ensures (c.in_ok-verdicts.ensures ∙ ap (λ (es : List Entry). verdicts_from p (reverse es) 0 p.actions) c.entries.ensures)
    c.as_slice.ensures.value c.as_slice-2.ensures.value c.in_ok-standings.ensures c.as_slice-3.ensures.value c.in_ok-ends.ensures
