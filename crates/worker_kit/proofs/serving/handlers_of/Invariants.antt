use Rattle.std.proofs.Common.{◌≡◌, ◌+◌, ◌≤◌, ◌++◌, length, vec_len, vec_capacity}
use Rattle.worker_kit.specs.Serves.{handlers_of}
use Rattle.worker_kit.proofs.serving.handlers_of.Given as goal

-- Those so far, and those to come.
abbrev pub invariant-loop-works : goal.invariant-loop-works
invariant-loop-works g l = record {
  all : l.handlers.items ++ handlers_of l.rest.items ≡ handlers_of l.fn.works.items;
  room : vec_len l.handlers + length l.rest.items ≤ vec_capacity l.handlers;
}

abbrev pub decreases-loop-works : goal.decreases-loop-works
decreases-loop-works g l = length l.rest.items
