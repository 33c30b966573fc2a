use Rattle.std.proofs.Common.{◌≡◌, ◌≤◌, ◌+◌, max, List, ℕ, length, true}
use Rattle.outside.specs.Lists.{Adds}
use Rattle.seat_desk.specs.Passes.{IsSamePass}
use Rattle.json_framing.specs.Cutter.{form_of, framing_of, held}
use Rattle.message_service.specs.Stream.{HeardAll}
use Rattle.work_queue.specs.States.{reader}
use Rattle.work_lanes.specs.Calls.{heard_at, most_at}
use Rattle.work_lanes.specs.Serves.{piece}
use Rattle.work_lanes.proofs.reading.read_all.Given as goal

-- What was taken is what the cutter was fed, and all requests that it spells were heard.
abbrev pub invariant-loop : goal.invariant-loop
invariant-loop g l = record {
  bytes : List ℕ;
  lane : l.caller.pass.lane ≡ reader;
  same : IsSamePass l.initial.caller.pass l.caller.pass;
  framing : framing_of l.cutter ≡ g.H.Answerer.framing;
  taken : Adds bytes (g.T.Tap.told l.initial.input).taken (g.T.Tap.told l.input).taken;
  later : (g.T.Tap.told l.initial.input).faults ≤ (g.T.Tap.told l.input).faults;
  heard : HeardAll (form_of g.H.Answerer.framing) g.H.Answerer.spells true bytes
      (heard_at g.H.Kind.number g.H.Kind.cancels l.caller.pass) (held l.cutter);
  reads : l.counter ≤ length bytes;
  most : most_at g.H.Kind.number g.H.Kind.cancels l.caller.pass
      ≤ max (most_at g.H.Kind.number g.H.Kind.cancels l.initial.caller.pass)
      (l.fn.depth + piece);
}
