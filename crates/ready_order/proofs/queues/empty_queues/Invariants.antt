use Rattle.std.proofs.Common.{◌≡◌}
use Rattle.std.specs.Prelude.{replicate}
use Rattle.ready_order.specs.declared.winner_tree.TheConstants.{ABSENT}
use Rattle.ready_order.proofs.queues.empty_queues.Given as goal

abbrev pub invariant-loop-group : goal.invariant-loop-group
invariant-loop-group l = l.queues.items ≡ replicate l._group (replicate l.places ABSENT)
