use Rattle.std.proofs.Common.{List, get_or, ap, sym, ◌∙◌, reverse}
use Rattle.exec_journal.specs.Entry.{Entry}
use Rattle.run_plan.specs.declared.plan.PlanAction.{PlanAction}
use Rattle.exec_journal.specs.Settled.{standings}
use Rattle.exec_journal.specs.Outcomes.{outcome_after}
use Rattle.journal_lookback.proofs.Judged.{outcome_read}
use Rattle.journal_lookback.proofs.outcomes.outcome.Goals as goal

pub returns : goal.returns
returns c =
    let work = c.index-as_slice-action.result in
    c.outcome_in.ensures
    ∙ ap (λ (es : List Entry). outcome_after c.args.plan.now (reverse es) c.args.action work (standings c.args.plan.now (reverse es))) c.entries.ensures
    ∙ sym (outcome_read c.args.plan.now (reverse c.args.j.now) c.args.action work c.requires.within
    (c.index-as_slice-action.is ∙ ap (λ (xs : List PlanAction). get_or xs c.args.action work) c.as_slice.ensures))
