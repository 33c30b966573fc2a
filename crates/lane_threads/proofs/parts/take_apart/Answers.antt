use Rattle.std.proofs.Common.{length, ap, arith}
use Rattle.lane_threads.proofs.Listed.{takes_one, takes_last}
use Rattle.lane_threads.proofs.parts.take_apart.Goals as goal

pub loop-one-preserved : goal.loop-one-preserved
loop-one-preserved g c =
    let before = c.loop-one.invariant in
    let fewer = ap length c.in-Some.ensures.items in
    record {
      taking = takes_one c.args.all.items c.loop-one.rest.items c.pop_front.new.self.items
          c.loop-one.others.items c.push_reserved.new.self.items c.in-Some.one c.in-First.other
          before.taking c.in-Some.ensures.items c.in-First.is c.push_reserved.ensures.items;
      room = omega (
        arith,
        fewer,
        before.room,
        c.push_reserved.ensures.len,
        c.push_reserved.ensures.capacity,
      );
    }

pub returns-in-Second : goal.returns-in-Second
returns-in-Second g c =
    takes_last c.args.all.items c.loop-one.rest.items c.pop_front.new.self.items
    c.loop-one.others.items c.in-Some.one c.in-Second.beside c.loop-one.invariant.taking
    c.in-Some.ensures.items c.in-Second.is
