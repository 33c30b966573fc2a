use Rattle.std.proofs.Common.{length, ap, arith}
use Rattle.lane_threads.proofs.Listed.{lays_one}
use Rattle.lane_threads.proofs.parts.lay_together.Goals as goal

pub loop-other-preserved : goal.loop-other-preserved
loop-other-preserved g c =
    let before = c.loop-other.invariant in
    let fewer = ap length c.in-Some.ensures.items in
    record {
      laying = lays_one c.args.others.items c.loop-other.rest.items c.pop_front.new.self.items
          c.loop-other.all.items c.push_reserved.new.self.items c.in-Some.other before.laying
          c.in-Some.ensures.items c.push_reserved.ensures.items;
      room = omega (
        arith,
        fewer,
        before.room,
        c.push_reserved.ensures.len,
        c.push_reserved.ensures.capacity,
      );
    }
