use Rattle.std.specs.Prelude.{[]}
use Rattle.seat_desk.specs.Passes.{IsSamePass, mine}
use Rattle.tick_lane.specs.Ticks.{HasTicked}
use Rattle.tick_lane.proofs.lane.tick_on.Given as goal

-- So far Ticks were noted, and nothing else.
abbrev pub invariant-loop : goal.invariant-loop
invariant-loop g l = record {
  same : IsSamePass l.fn.caller.pass l.caller.pass;
  ticked : HasTicked l.fn.caller.pass.lane (g.W.Pacer.told l.fn.pacer) (g.W.Pacer.told l.pacer) []
      (mine l.caller.pass);
}
