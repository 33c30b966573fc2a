use Rattle.std.proofs.Common.{◌≡◌, ◌+◌, ℕ, Option, drop, sym, subst, ◌∙◌}
use Rattle.run_plan.specs.declared.plan.Maker.{Maker}
use Rattle.exec_journal.specs.Outcomes.{lesser, least_without}
use Rattle.journal_lookback.proofs.Judged.{least_step, least_skip, least_all}
use Rattle.journal_lookback.proofs.outcomes.least_unmade.Goals as goal
use Rattle.journal_lookback.proofs.outcomes.least_unmade.Goals.{then-not-is_succeeded, else-not-is_succeeded}

blank : Maker
blank = record { action = 0; output = 0 }

pub loop-maker-preserved : goal.loop-maker-preserved
unfolding blank
loop-maker-preserved c =
    let rest = least_without c.args.standings.now (drop (c.loop-maker.maker-index + 1) c.args.makers.now) in
    let whole = least_without c.args.standings.now c.args.makers.now in
    elim c.if-not-is_succeeded.branch [
      | then-not-is_succeeded w ↦
          subst (λ (o : Option ℕ). lesser o rest ≡ whole) (sym (w.least-is ∙ w.lesser_of-least.ensures))
          (least_step c.args.standings.now c.args.makers.now c.loop-maker.maker-index blank c.loop-maker.least whole c.loop-maker-test.true c.loop-maker.invariant (sym c.is_succeeded.ensures ∙ w.if-not-is_succeeded.true))
      | else-not-is_succeeded w ↦
          subst (λ (o : Option ℕ). lesser o rest ≡ whole) (sym w.least-is)
          (least_skip c.args.standings.now c.args.makers.now c.loop-maker.maker-index blank c.loop-maker.least whole c.loop-maker-test.true c.loop-maker.invariant (sym c.is_succeeded.ensures ∙ w.if-not-is_succeeded.false))
    ]

pub returns : goal.returns
returns c = least_all c.args.standings.now c.args.makers.now c.loop-maker.maker-index c.loop-maker.least _ c.loop-maker-test.false c.loop-maker.invariant
