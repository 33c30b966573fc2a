use Rattle.journal_lookback.specs.Lookback.{front}
use Rattle.branch_losses.specs.Last.{AreOrders}
use Rattle.branch_losses.proofs.attempts.find_orders.Given as goal

abbrev pub invariant-loop-entry : goal.invariant-loop-entry
invariant-loop-entry l = AreOrders l.nth l.orders (front l.entries l.entry-index)
