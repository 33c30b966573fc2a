use Rattle.std.proofs.Common.{◌+◌, ◌-◌, ◌||◌, length, ap, sym, ◌∙◌}
use Rattle.placed_berths.specs.Due.{some_among}
use Rattle.placed_berths.specs.Walked.{some_step}
use Rattle.placed_berths.proofs.delay.Delay.some_waits.Goals as goal

pub loop-action-preserved : goal.loop-action-preserved
loop-action-preserved c =
    let f = c.args.self.now in let s = c.args.state.now in let a = c.loop-action.action in
    let n = length c.as_slice.result.now in
    sym (some_step f s a n c.loop-action-test.true
    ∙ ap (λ b. b || some_among f s (a + 1) (n - (a + 1)))
    (sym c.waits.ensures ∙ c.if-waits.false)) ∙ c.loop-action.invariant
