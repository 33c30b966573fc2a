use Rattle.std.proofs.Common.{length, ap, arith, rules}
use Rattle.lane_threads.proofs.Enlisting.{dismisses, dismisses_one, next_ready, next_jobs_pass, dismissed}
use Rattle.lane_threads.proofs.crew.dismiss.Goals as goal

pub loop-slot-init : goal.loop-slot-init
loop-slot-init g c =
    let same = ap length c.from_vec-rest.ensures.items in
    let room = c.requires.room in (
      dismisses c.args.desk.now c.args.root.now c.args.slots.items c.from_vec-rest.result.items c.args.lanes.now.items
          c.requires.desk c.requires.none room.empty c.from_vec-rest.ensures.items c.requires.seated,
      omega (arith, same, room.none, room.room),
    )

pub job_of-lane-requires : goal.job_of-lane-requires
job_of-lane-requires g c =
    next_ready c.args.desk.now c.args.root.now c.loop-slot.root c.args.slots.items c.loop-slot.rest.items c.pop_front.new.self.items c.loop-slot.lanes.items c.in-Some.slot
    c.loop-slot.invariant.0 c.in-Some.ensures.items

pub join_pass-requires : goal.join_pass-requires
join_pass-requires g c = (
  c.loop-slot.invariant.0.of_desk,
  next_jobs_pass c.args.desk.now c.args.root.now c.loop-slot.root c.args.slots.items c.loop-slot.rest.items c.pop_front.new.self.items c.loop-slot.lanes.items c.in-Some.slot c.job_of-lane.result
      c.loop-slot.invariant.0 c.in-Some.ensures.items c.job_of-lane.ensures,
)

pub loop-slot-preserved : goal.loop-slot-preserved
loop-slot-preserved g c =
    let before = c.loop-slot.invariant in
    let fewer = ap length c.in-Some.ensures.items in (
      dismisses_one c.args.desk.now c.args.root.now c.loop-slot.root c.join_pass.new.root c.args.slots.items c.loop-slot.rest.items c.pop_front.new.self.items c.loop-slot.lanes.items c.push_reserved.new.self.items
          c.in-Some.slot c.job_of-lane.result before.0 c.in-Some.ensures.items c.job_of-lane.ensures c.join_pass.ensures.same c.join_pass.ensures.joined c.push_reserved.ensures.items,
      omega (arith, fewer, before.1, c.push_reserved.ensures.len, c.push_reserved.ensures.capacity),
    )

pub returns-clause-idle : goal.returns-clause-idle
returns-clause-idle g c =
    (dismissed c.args.desk.now c.args.root.now c.loop-slot.root c.args.slots.items c.loop-slot.rest.items c.loop-slot.lanes.items c.loop-slot.invariant.0 (search rules)).0

pub returns-clause-lanes : goal.returns-clause-lanes
returns-clause-lanes g c =
    (dismissed c.args.desk.now c.args.root.now c.loop-slot.root c.args.slots.items c.loop-slot.rest.items c.loop-slot.lanes.items c.loop-slot.invariant.0 (search rules)).1
