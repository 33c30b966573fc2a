use Rattle.std.proofs.Common.{Some, option_copied, refl, sym, ◌∙◌}
use Rattle.journal_ends.proofs.Replayed.{orders_set, orders_kept, orders_past}
use Rattle.journal_ends.proofs.replay.note_order.Goals as goal
use Rattle.journal_ends.proofs.replay.note_order.Goals.{else-at-orders-via-then-at-orders+else-is_work_of, else-at-orders-via-else-at-orders}

pub returns-then-is_work_of : goal.returns-then-is_work_of
returns-then-is_work_of c j are =
    orders_set option_copied c.args.orders.now j c.args.entry.now (Some c.args.entry) refl (sym c.is_work_of.ensures ∙ c.if-is_work_of.true) c.if-at-orders.true are

pub returns-else-at-orders : goal.returns-else-at-orders
returns-else-at-orders c j are =
    elim c.else-at-orders.branch [
      | else-at-orders-via-then-at-orders+else-is_work_of w ↦ orders_kept option_copied c.args.orders.now j c.args.entry.now (sym w.is_work_of.ensures ∙ w.if-is_work_of.false) are
      | else-at-orders-via-else-at-orders w ↦ orders_past option_copied c.args.orders.now j c.args.entry.now w.if-at-orders.false are
    ]
