use Rattle.std.proofs.Common.{ap, arith, inl, refl}
use Rattle.seat_desk.specs.Passes.{mine}
use Rattle.exec_journal.specs.declared.reply.Reply.TheVariants as reply
use Rattle.tick_lane.specs.Ticks.{reply_of}
use Rattle.tick_lane.proofs.Counting.{one_ticked, owes_nothing}
use Rattle.tick_lane.proofs.Ticking.{same_then, tick_made}
use Rattle.tick_lane.proofs.lane.tick_on.Goals as goal

pub make_tick-requires-clause-asks : goal.make_tick-requires-clause-asks
make_tick-requires-clause-asks g c =
    owes_nothing c.args.caller.now.pass.lane (g.W.Pacer.told c.args.pacer.now)
    (g.W.Pacer.told c.loop.pacer) (mine c.loop.caller.pass) c.loop.invariant.ticked

pub loop-init : goal.loop-init
loop-init g c = record {
  same = (refl, refl, refl);
  ticked = record { noted = 0; made = c.requires.fresh; paced = inl (omega arith) };
}

pub loop-preserved : goal.loop-preserved
loop-preserved g c =
    let core = g.C.Rules in
    let told = g.W.Pacer.told in
    let first = c.args.caller.now.pass in
    let before = c.loop.caller.pass in
    let now = c.make_tick.new.caller.pass in
    let i = c.loop.invariant in
    record {
      same = same_then first before now i.same c.make_tick.ensures.same;
      ticked = one_ticked first.lane (told c.args.pacer.now) (told c.loop.pacer) (mine before) i.ticked
          (told c.tick.new.self) (mine now)
          (tick_made core.discipline g.met.C.Rules.keeps c.args.berth before now first.lane
          (reply_of c.in_ok-make_tick.field-0) reply.Noted i.same.1 (ap reply_of c.in-Noted.is)
          c.in_ok-make_tick.ensures.ok) c.tick.ensures;
    }
