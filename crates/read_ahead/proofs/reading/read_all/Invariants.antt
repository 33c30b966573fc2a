use Rattle.std.proofs.Common.{◌≡◌, ◌≤◌, List, ℕ, length, None, true}
use Rattle.outside.specs.Lists.{Adds}
use Rattle.seat_desk.specs.Passes.{IsSamePass}
use Rattle.json_framing.specs.Cutter.{form_of, framing_of, held}
use Rattle.message_service.specs.Stream.{HeardAll}
use Rattle.message_box.specs.States.{put_in}
use Rattle.message_box.specs.Sides.{state_at}
use Rattle.read_ahead.proofs.reading.read_all.Given as goal

-- What was taken is what the cutter was fed, and all messages that it spells were put in.
abbrev pub invariant-loop : goal.invariant-loop
invariant-loop g l = record {
  bytes : List ℕ;
  same : IsSamePass l.initial.caller.pass l.caller.pass;
  reads_on : (state_at l.caller.pass).stop ≡ None;
  framing : framing_of l.cutter ≡ g.V.Service.framing;
  taken : Adds bytes (g.T.Tap.told l.initial.input).taken (g.T.Tap.told l.input).taken;
  later : (g.T.Tap.told l.initial.input).faults ≤ (g.T.Tap.told l.input).faults;
  heard : HeardAll (form_of g.V.Service.framing) g.V.Service.spells true bytes
      (put_in (state_at l.caller.pass)) (held l.cutter);
  reads : l.counter ≤ length bytes;
}
