use Rattle.std.proofs.Common.{◌<◌, ◌+◌, ◌++◌, List, length, get_or, drop, reverse, ap, subst, ◌∙◌, arith}
use Rattle.run_plan.specs.declared.plan.PlanAction.{PlanAction}
use Rattle.journal_ends.specs.declared.endings.Verdict.{Verdict}
use Rattle.journal_ends.specs.Endings.{verdicts_from}
use Rattle.journal_ends.proofs.Ended.{verdicts_step}
use Rattle.journal_ends.proofs.endings.verdicts_by.Goals as goal

pub loop-a-preserved : goal.loop-a-preserved
loop-a-preserved c =
    let p = c.args.plan.now in let j = reverse c.args.entries.now in
    let few : c.loop-a.a < length p.actions = subst (λ (xs : List PlanAction). c.loop-a.a < length xs) c.as_slice-works.ensures c.loop-a-test.true in
    let same = c.requires.count in
    let many : c.loop-a.a < length c.args.actions.now = omega arith in
    ap (λ (vs : List Verdict). vs ++ verdicts_from p j (c.loop-a.a + 1) (drop (c.loop-a.a + 1) p.actions)) c.in_ok-push.ensures.items
    ∙ verdicts_step p j c.args.actions.now c.loop-a.verdicts.items c.loop-a.a _ c.index-works-a.result c.verdict_on.result (verdicts_from p j 0 p.actions)
    c.requires.actions many few (c.index-works-a.is ∙ ap (λ (xs : List PlanAction). get_or xs c.loop-a.a c.index-works-a.result) c.as_slice-works.ensures) c.verdict_on.ensures c.loop-a.invariant
