use Rattle.tick_lane.proofs.Replies.{no_other}
use Rattle.tick_lane.proofs.Ticking.{ticked}
use Rattle.tick_lane.proofs.calls.make_tick.Goals as goal

pub unreachable-requires : goal.unreachable-requires
unreachable-requires g c =
    let core = g.C.Rules in
    let a = c.in-Ok.ensures.answer.0 in
    let r = c.in-Ok.reply in
    let k = ticked core.discipline g.met.C.Rules.keeps c.args.berth c.args.caller.now.pass
    c.ask.new.self.pass c.requires.lane c.requires.asks a.0 r (a.1, a.2, a.3) in
    no_other r k.fitting c.in-Ok.ensures.answer.1 c.in_default.not-Noted c.in_default.not-Stop
