use Rattle.seat_desk.specs.Passes.{mine}
use Rattle.exec_journal.specs.declared.call.Call.TheVariants as call
use Rattle.tap_lane.proofs.Replies.{of_take, no_other, take_no_file}
use Rattle.core_machine.specs.Bench.{ComesOut}
use Rattle.tap_lane.proofs.Entries.{called_by, take_may}
use Rattle.tap_lane.proofs.calls.TapLane+Bench+B+P+C.take.Goals as goal

pub unreachable-requires-in_default : goal.unreachable-requires-in_default
unreachable-requires-in_default g c =
    let core = g.C.Rules in
    let law = g.met.C.Rules in
    let before = c.args.self.now.caller.pass in
    let r = c.in-Ok.reply in
    let a = c.in-Ok.ensures.answer.0 in
    let took = called_by core.discipline law.keeps
    (λ q. ComesOut g.B.Child.Child.told g.B.Tap.Tap.told g.P.Place.told (core.discipline q)) before
    c.ask.new.self.pass c.requires.lane r c.in-Ok.good call.Take take_no_file
    (take_may (mine before) c.requires.hears) (a.0, a.1, a.2, a.3, a.4) in
    no_other r (of_take r took.fitting) c.in-Ok.ensures.answer.1 c.in_default.not-Line
    c.in_default.not-Stop
