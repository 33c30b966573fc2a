use Rattle.std.proofs.Common.{◌<◌, ◌≤◌, List, length, get_or, ap, subst, ◌∙◌, reverse, arith}
use Rattle.run_plan.specs.declared.plan.PlanAction.{PlanAction}
use Rattle.exec_journal.specs.Settled.{standings}
use Rattle.journal_lookback.proofs.Judged.{standings_start, standings_step, standings_all}
use Rattle.journal_lookback.proofs.outcomes.find_standings.Goals as goal

pub loop-a-init : goal.loop-a-init
loop-a-init c = standings_start c.args.plan.now (reverse c.args.entries.now)

pub loop-a-preserved : goal.loop-a-preserved
loop-a-preserved c =
    let few : c.loop-a.a < length c.args.plan.now.actions = subst (λ (xs : List PlanAction). c.loop-a.a < length xs) c.as_slice-work-items.ensures c.loop-a-test.true in
    let same = c.loop-a.auto.all in let enough = c.requires.room in
    let room : c.loop-a.a < length c.loop-a.all = omega arith in
    standings_step c.args.plan.now (reverse c.args.entries.now) c.loop-a.all c.loop-a.a c.work-item.result c.standing_next-standing.result (standings c.args.plan.now (reverse c.args.entries.now)) few room
    (c.work-item.is ∙ ap (λ (xs : List PlanAction). get_or xs c.loop-a.a c.work-item.result) c.as_slice-work-items.ensures) c.standing_next-standing.ensures c.loop-a.invariant

pub returns : goal.returns
returns c =
    standings_all c.args.plan.now (reverse c.args.entries.now) c.loop-a.all c.loop-a.a
    (subst (λ (xs : List PlanAction). length xs ≤ c.loop-a.a) c.as_slice-work-items.ensures c.loop-a-test.false)
    (subst (λ (xs : List PlanAction). c.loop-a.a ≤ length xs) c.as_slice-work-items.ensures c.loop-a.auto.a-end) c.loop-a.invariant
