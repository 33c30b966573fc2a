use Rattle.std.proofs.Common.{map}
use Rattle.core_contract.specs.Laws.{Free}
use Rattle.tap_lane.specs.Heard.{back_by}
use Rattle.tap_lane.specs.Lane.{Runs}
use Rattle.tap_lane.specs.Working.{IsAt, IsSameLane, own, number}
use Rattle.tap_lane.proofs.lane.TapLane+Bench+B+P+C.hear_lines.Given as goal

-- Each line so far was heard to its end.
abbrev pub invariant-loop : goal.invariant-loop
invariant-loop g l = record {
  same : IsSameLane l.initial.self l.self;
  free : IsAt g.C.Rules.discipline Free l.self;
  runs : Runs l.initial.self.speech (number l.initial.self)
      (map (back_by g.B.Tap.Tap.told) l.taps.items) (own l.self);
}
