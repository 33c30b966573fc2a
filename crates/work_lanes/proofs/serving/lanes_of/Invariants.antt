use Rattle.std.proofs.Common.{◌≡◌, ◌≤◌, ◌+◌, ◌<◌, ◌^◌, List, ◌++◌, length, vec_len}
use Rattle.std.specs.Vec.{vec_capacity}
use Rattle.lane_threads.specs.declared.pair.Either.{Either}
use Rattle.work_lanes.specs.declared.reading.Reader.{Reader}
use Rattle.work_lanes.specs.declared.handling.Hands.{Hands}
use Rattle.work_lanes.specs.Crews.{AreHands, AreLanes}
use Rattle.work_lanes.proofs.serving.lanes_of.Given as goal

-- Whatever lanes the handlers to come have, these stand before them.
abbrev pub invariant-loop-handler : goal.invariant-loop-handler
invariant-loop-handler g l = record {
  room : vec_len l.lanes + length l.rest.items ≤ vec_capacity l.lanes;
  flags : length l.flags.items ≡ length l.rest.items;
  few : l.number + length l.rest.items < 2 ^ 32;
  so_far : (more : List (Either (Reader g.row.T.Denot) (Hands g.row.H.Denot)))
      → AreHands l.number l.rest.items more
      → AreLanes l.fn.input l.fn.depth l.fn.handlers.items (l.lanes.items ++ more);
}

abbrev pub decreases-loop-handler : goal.decreases-loop-handler
decreases-loop-handler g l = length l.rest.items
