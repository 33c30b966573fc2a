use Rattle.std.proofs.Common.{◌≡◌, ◌+◌, ◌≤◌, ◌++◌, length, vec_len}
use Rattle.std.specs.Vec.{vec_capacity}
use Rattle.worker_kit.specs.Serves.{handlers_of}
use Rattle.worker_kit.proofs.serving.works_of.Given as goal

-- Each handler is in its place or still to come, and there is room for those.
abbrev pub invariant-loop-handler : goal.invariant-loop-handler
invariant-loop-handler g l = record {
  all : handlers_of l.works.items ++ l.rest.items ≡ l.fn.handlers.items;
  room : vec_len l.works + length l.rest.items ≤ vec_capacity l.works;
}

abbrev pub decreases-loop-handler : goal.decreases-loop-handler
decreases-loop-handler g l = length l.rest.items
