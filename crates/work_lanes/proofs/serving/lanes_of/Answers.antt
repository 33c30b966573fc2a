use Rattle.std.proofs.Common.{◌≡◌, [], length, refl, ap, arith, rules}
use Rattle.work_lanes.proofs.Crewing.{lanes_begin, lanes_go_on, lanes_end}
use Rattle.work_lanes.proofs.serving.lanes_of.Goals as goal

pub loop-handler-init : goal.loop-handler-init
loop-handler-init g c =
    let n = ap length c.from_vec-rest.ensures.items in
    record {
      room = omega (
        arith,
        n,
        c.push_reserved.ensures.len,
        c.push_reserved.ensures.capacity,
        ap length c.requires.empty,
        c.requires.room,
      );
      flags = omega (arith, n, ap length c.from_vec-flags.ensures.items, c.requires.flags);
      few = omega (arith, n, c.requires.handlers.1);
      so_far = lanes_begin c.args.input c.args.depth c.args.handlers.items c.from_vec-rest.result.items
          (record { alloc = c.args.alloc; input = c.args.input; depth = c.args.depth })
          c.args.room.items c.push_reserved.new.self.items
          c.push_reserved.ensures.items c.requires.empty
          refl refl c.from_vec-rest.ensures.items;
    }

pub loop-handler-preserved : goal.loop-handler-preserved
loop-handler-preserved g c =
    let i = c.loop-handler.invariant in
    let fewer = ap length c.in-Some.ensures.items in
    record {
      room = omega (
        arith,
        fewer,
        i.room,
        c.push_reserved-in-Some.ensures.len,
        c.push_reserved-in-Some.ensures.capacity,
      );
      flags = omega (arith, fewer, ap length c.in-Some-pop_front.ensures.items, i.flags);
      few = omega (arith, fewer, i.few);
      so_far = lanes_go_on c.args.input c.args.depth c.args.handlers.items c.loop-handler.number
          c.loop-handler.rest.items c.pop_front.new.self.items _
          c.loop-handler.lanes.items c.push_reserved-in-Some.new.self.items
          c.push_reserved-in-Some.ensures.items refl c.in-Some.ensures.items i.so_far;
    }

pub returns : goal.returns
returns g c =
    let none : c.loop-handler.rest.items ≡ [] = search rules in
    lanes_end c.args.input c.args.depth c.args.handlers.items c.loop-handler.number
    c.loop-handler.rest.items c.loop-handler.lanes.items none
    c.loop-handler.invariant.so_far
