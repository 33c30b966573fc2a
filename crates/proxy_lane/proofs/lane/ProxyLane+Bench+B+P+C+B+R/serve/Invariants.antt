use Rattle.proxy_laws.specs.Steps.{Goes}
use Rattle.proxy_lane.specs.Sites.{means_at, IsReady, IsSameLane}
use Rattle.proxy_lane.proofs.lane.ProxyLane+Bench+B+P+C+B+R.serve.Given as goal

-- The lane asks, and what it has done holds of what it has in its hands.
abbrev pub invariant-loop : goal.invariant-loop
invariant-loop g l = record {
  same : IsSameLane l.fn.self l.self;
  ready : IsReady g.C.Rules.discipline l.self;
  goes : Goes (means_at l.fn.self.site) g.C.Rules.discipline l.fn.self.caller.pass l.fn.self.hands
      l.self.caller.pass l.self.hands;
}
