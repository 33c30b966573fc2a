use Rattle.std.proofs.Common.{length, ap, arith, rules}
use Rattle.lane_threads.proofs.Enlisting.{collects, collects_one, next_ended, next_pass, collected}
use Rattle.lane_threads.proofs.crew.collect.Goals as goal

pub loop-slot-init : goal.loop-slot-init
loop-slot-init g c =
    let same = ap length c.from_vec-rest.ensures.items in
    let room = c.requires.room in (
      collects c.args.desk.now c.args.root.now c.args.slots.items c.from_vec-rest.result.items c.args.ends.now.items
          c.requires.desk c.requires.none room.empty c.from_vec-rest.ensures.items c.requires.done,
      omega (arith, same, room.none, room.room),
    )

pub end_of-end-requires : goal.end_of-end-requires
end_of-end-requires g c =
    next_ended c.args.desk.now c.args.root.now c.loop-slot.root c.args.slots.items c.loop-slot.rest.items c.pop_front.new.self.items c.loop-slot.ends.items c.in-Some.slot
    c.loop-slot.invariant.0 c.in-Some.ensures.items

pub join_pass-requires : goal.join_pass-requires
join_pass-requires g c = (
  c.loop-slot.invariant.0.of_desk,
  next_pass c.args.desk.now c.args.root.now c.loop-slot.root c.args.slots.items c.loop-slot.rest.items c.pop_front.new.self.items c.loop-slot.ends.items c.in-Some.slot c.end_of-end.result
      c.loop-slot.invariant.0 c.in-Some.ensures.items c.end_of-end.ensures,
)

pub loop-slot-preserved : goal.loop-slot-preserved
loop-slot-preserved g c =
    let before = c.loop-slot.invariant in
    let fewer = ap length c.in-Some.ensures.items in (
      collects_one c.args.desk.now c.args.root.now c.loop-slot.root c.join_pass.new.root c.args.slots.items c.loop-slot.rest.items c.pop_front.new.self.items c.loop-slot.ends.items c.push_reserved.new.self.items
          c.in-Some.slot c.end_of-end.result before.0 c.in-Some.ensures.items c.end_of-end.ensures c.join_pass.ensures.same c.join_pass.ensures.seen c.join_pass.ensures.joined c.push_reserved.ensures.items,
      omega (arith, fewer, before.1, c.push_reserved.ensures.len, c.push_reserved.ensures.capacity),
    )

pub returns-clause-handed : goal.returns-clause-handed
returns-clause-handed g c =
    collected c.args.desk.now c.args.root.now c.loop-slot.root c.args.slots.items c.loop-slot.rest.items c.loop-slot.ends.items c.loop-slot.invariant.0 (search rules)
