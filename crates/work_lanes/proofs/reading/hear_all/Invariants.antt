use Rattle.std.proofs.Common.{◌≡◌, List, ℕ}
use Rattle.seat_desk.specs.Passes.{IsSamePass}
use Rattle.json_framing.specs.Cutter.{form_of, framing_of, held}
use Rattle.message_service.specs.Stream.{Heard}
use Rattle.work_queue.specs.States.{reader}
use Rattle.work_lanes.specs.Calls.{heard_at, read_at, HearsMore}
use Rattle.work_lanes.proofs.reading.hear_all.Given as goal

-- The requests that were heard so far are those that the cutter gave.
abbrev pub invariant-loop : goal.invariant-loop
invariant-loop g l = record {
  lane : l.caller.pass.lane ≡ reader;
  same : IsSamePass l.initial.caller.pass l.caller.pass;
  framing : framing_of l.cutter ≡ g.H.Answerer.framing;
  heard : (fed : List ℕ)
      → Heard (form_of g.H.Answerer.framing) g.H.Answerer.spells fed
      (heard_at g.H.Kind.number g.H.Kind.cancels l.initial.caller.pass) (held l.initial.cutter)
      → Heard (form_of g.H.Answerer.framing) g.H.Answerer.spells fed
      (heard_at g.H.Kind.number g.H.Kind.cancels l.caller.pass) (held l.cutter);
  more : HearsMore (read_at g.H.Kind.number g.H.Kind.cancels l.initial.caller.pass)
      (read_at g.H.Kind.number g.H.Kind.cancels l.caller.pass);
}
