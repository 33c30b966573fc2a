use Rattle.core_machine.specs.Bench.{ComesOut}
use Rattle.tap_lane.proofs.Entries.{told_answer}
use Rattle.tap_lane.proofs.calls.TapLane+Bench+B+P+C.tell_answer.Goals as goal

pub returns-in-Ok-clause-ok : goal.returns-in-Ok-clause-ok
returns-in-Ok-clause-ok g c =
    let core = g.C.Rules in
    let law = g.met.C.Rules in
    let a = c.in-Ok.ensures.answer in
    told_answer core.discipline law.keeps
    (λ q. ComesOut g.B.Child.Child.told g.B.Tap.Tap.told g.P.Place.told (core.discipline q))
    c.args.self.now.caller.pass c.call.new.self.pass c.requires.lane c.in-Ok.field-0.0
    c.in-Ok.field-0.1 c.args.line c.args.answer c.requires.hears (a.0, a.1, a.2, a.3, a.4)
