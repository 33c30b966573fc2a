use Rattle.std.proofs.Common.{length, ap, arith}
use Rattle.lane_runs.proofs.Parting.{none_left, begins, parts_none, parts_one, parts_all, next_fits}
use Rattle.lane_runs.proofs.berths.lay_berths.Goals as goal

pub loop-slot-init : goal.loop-slot-init
loop-slot-init g c =
    let many = ap length c.from_vec-slots.ensures.items in
    let room = c.requires.berths.room in
    let unsaid_room = c.requires.unsaid.room in
    record {
      parting = parts_none c.args.shelved.items c.from_vec-slots.result.items c.args.ends.items
          c.from_vec-rest.result.items c.args.berths.now.items c.args.unsaid.now.items
          c.args.lines.now.items c.requires.alternate c.requires.inside c.from_vec-slots.ensures.items
          c.from_vec-rest.ensures.items c.requires.berths.empty c.requires.unsaid.empty;
      room = omega (arith, many, room);
      unsaid_room = omega (arith, many, unsaid_room);
    }

pub next_two-proxy-requires : goal.next_two-proxy-requires
next_two-proxy-requires g c =
    let loop = c.loop-slot in
    begins c.args.shelved.items loop.slots.items c.pop_front.new.self.items c.args.ends.items
    loop.rest.items c.in-Some.slot loop.berths.items loop.unsaid.items c.args.lines.now.items
    loop.lines.items loop.invariant.parting c.in-Some.ensures.items

pub put_halves-requires : goal.put_halves-requires
put_halves-requires g c =
    let loop = c.loop-slot in
    let two = c.next_two-proxy in
    next_fits c.args.shelved.items loop.slots.items c.pop_front.new.self.items c.args.ends.items
    loop.rest.items two.new.ends.items c.in-Some.slot two.result.0 two.result.1 loop.berths.items
    loop.unsaid.items c.args.lines.now.items loop.lines.items loop.invariant.parting
    c.in-Some.ensures.items two.ensures

pub loop-slot-preserved : goal.loop-slot-preserved
loop-slot-preserved g c =
    let loop = c.loop-slot in
    let two = c.next_two-proxy in
    let berth = c.push_reserved.ensures in
    let line = c.push_reserved-in-Some.ensures in
    let many = ap length c.in-Some.ensures.items in
    let room = loop.invariant.room in
    let unsaid_room = loop.invariant.unsaid_room in
    record {
      parting = parts_one c.args.shelved.items loop.slots.items c.pop_front.new.self.items
          c.args.ends.items loop.rest.items two.new.ends.items c.in-Some.slot two.result.0 two.result.1
          loop.berths.items loop.unsaid.items c.args.lines.now.items loop.lines.items
          loop.invariant.parting c.in-Some.ensures.items two.ensures c.push_reserved.new.self.items
          c.push_reserved-in-Some.new.self.items c.put_halves.new.lines.items berth.items line.items
          c.put_halves.ensures.numbers c.put_halves.ensures.halves;
      room = omega (arith, many, room, berth.len, berth.capacity);
      unsaid_room = omega (arith, many, unsaid_room, line.len, line.capacity);
    }

pub returns : goal.returns
returns g c =
    let loop = c.loop-slot in
    let none = none_left loop.slots.items c.pop_front.new.self.items c.in_default.ensures.items
    c.in_default.ensures.rest in
    let all = parts_all c.args.shelved.items loop.slots.items c.args.ends.items loop.rest.items
    loop.berths.items loop.unsaid.items c.args.lines.now.items loop.lines.items loop.invariant.parting
    none in
    record { berths = all.0; unsaid = all.1; numbers = all.2; halves = all.3 }
