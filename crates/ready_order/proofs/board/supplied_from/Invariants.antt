use Rattle.std.proofs.Common.{◌≡◌, ℕ, ◌-◌, ◌<◌, ◌≤◌, true, length, get_or}
use Rattle.ready_order.specs.Queue.{has_success}
use Rattle.ready_order.proofs.board.supplied_from.Given as goal

abbrev pub invariant-loop-supplied : goal.invariant-loop-supplied
invariant-loop-supplied l = record {
  within : l.supplied ≤ length l.producers;
  passed : (k : ℕ) → k < l.supplied → has_success l.actions (get_or l.producers k 0) ≡ true;
}

abbrev pub decreases-loop-supplied : goal.decreases-loop-supplied
decreases-loop-supplied l = length l.producers - l.supplied
