use Rattle.std.proofs.Common.{◌≡◌, ◌≤◌, ◌+◌, ◌++◌, length, vec_len, vec_capacity}
use Rattle.work_lanes.specs.Crews.{handlers_in}
use Rattle.work_lanes.proofs.serving.handlers_left.Given as goal

-- Those so far, and those of the ends to come.
abbrev pub invariant-loop-end : goal.invariant-loop-end
invariant-loop-end g l = record {
  room : vec_len l.handlers + length l.rest.items ≤ vec_capacity l.handlers;
  all : l.handlers.items ++ handlers_in l.rest.items ≡ handlers_in l.fn.ends.items;
}

abbrev pub decreases-loop-end : goal.decreases-loop-end
decreases-loop-end g l = length l.rest.items
