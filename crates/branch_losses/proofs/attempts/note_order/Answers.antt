use Rattle.std.proofs.Common.{Option, Some, None}
use Rattle.list_lemmas.proofs.Updates.{set-update, update_past}
use Rattle.branch_losses.specs.declared.attempts.Order.{Order}
use Rattle.branch_losses.proofs.attempts.note_order.Goals as goal

pub returns-then-at-orders : goal.returns-then-at-orders
returns-then-at-orders c = set-update (λ (o : Option Order). Some c.args.given.order) c.args.orders.now c.args.given.action None c.if-at-orders.true

pub returns-else-at-orders : goal.returns-else-at-orders
returns-else-at-orders c = update_past (λ (o : Option Order). Some c.args.given.order) c.args.orders.now c.args.given.action c.if-at-orders.false
