use Rattle.std.proofs.Common.{◌≡◌, ◌≤◌, length}
use Rattle.std.specs.Vec.{vec_capacity}
use Rattle.work_lanes.proofs.serving.flags_of.Given as goal

-- One was made each time, and there is room for the others.
abbrev pub invariant-loop-before : goal.invariant-loop-before
invariant-loop-before l = record {
  made : length l.flags.items ≡ l.before;
  room : l.fn.count ≤ vec_capacity l.flags;
}
