use Rattle.core_machine.specs.Bench.{ComesOut}
use Rattle.tap_lane.proofs.Entries.{told_halt}
use Rattle.tap_lane.proofs.calls.TapLane+Bench+B+P+C.halt.Goals as goal

pub returns-clause-halted : goal.returns-clause-halted
returns-clause-halted g c =
    let core = g.C.Rules in
    let law = g.met.C.Rules in
    let a = c.call_paid.ensures.answer in
    told_halt core.discipline law.keeps
    (λ q. ComesOut g.B.Child.Child.told g.B.Tap.Tap.told g.P.Place.told (core.discipline q))
    c.args.self.now.caller.pass c.call_paid.new.self.pass c.requires.lane c.call_paid.result.0
    c.call_paid.result.1 c.requires.goes_on (a.0, a.1, a.2, a.3, a.4)
