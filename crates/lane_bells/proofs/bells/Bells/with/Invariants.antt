use Rattle.std.proofs.Common.{◌≡◌, ◌≤◌, vec_len}
use Rattle.std.specs.Vec.{vec_capacity}
use Rattle.lane_bells.proofs.bells.Bells.with.Given as goal

-- a bell was made for each lane so far, and there is room for all
abbrev pub invariant-loop : goal.invariant-loop
invariant-loop l = (vec_len l.parkers ≡ l.counter) × (l.lanes ≤ vec_capacity l.parkers)
