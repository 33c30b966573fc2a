use Rattle.std.proofs.Common.{◌∷◌, sym, subst, ◌∙◌}
use Rattle.journal_lookback.specs.Lookback.{front}
use Rattle.journal_ends.proofs.Answered.{next_front, whole_front}
use Rattle.branch_losses.specs.Last.{AreOrders}
use Rattle.branch_losses.proofs.Noted.{orders_more, orders_start, orders_stay}
use Rattle.branch_losses.proofs.attempts.find_orders.Goals as goal
use Rattle.branch_losses.proofs.attempts.find_orders.Goals.{in-Some, in_default}

pub loop-entry-init : goal.loop-entry-init
loop-entry-init c = orders_start c.args.nth c.args.orders.now c.requires

pub loop-entry-preserved : goal.loop-entry-preserved
loop-entry-preserved c =
    let n = c.args.nth in
    let before = front c.args.entries.now c.loop-entry.entry-index in
    let more = next_front c.args.entries.now c.loop-entry.entry-index c.entry-item.result c.loop-entry-test.true c.entry-item.is in
    subst (AreOrders n c.match-given_in.orders) (sym more)
    (elim c.match-given_in.branch [
      | in-Some w ↦ orders_more n c.loop-entry.orders c.match-given_in.orders before c.entry-item.result w.in-Some.given c.loop-entry.invariant (sym c.given_in.ensures ∙ w.in-Some.is) (w.orders-is ∙ w.note_order.ensures)
      | in_default w ↦ subst (λ os. AreOrders n os (c.entry-item.result ∷ before)) (sym w.orders-is) (orders_stay n c.loop-entry.orders before c.entry-item.result c.loop-entry.invariant (sym c.given_in.ensures ∙ w.in_default.is))
    ])

pub returns : goal.returns
returns c = subst (AreOrders c.args.nth c.loop-entry.orders) (whole_front c.args.entries.now c.loop-entry.entry-index c.loop-entry-test.false) c.loop-entry.invariant
