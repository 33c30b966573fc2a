use Rattle.std.proofs.Common.{length, ap, arith, rules}
use Rattle.lane_threads.specs.declared.job.Slot.TheVariants.{Ended}
use Rattle.lane_threads.specs.Jobs.{EndsAs}
use Rattle.lane_threads.proofs.Starts.{ending, ends_one, all_done, ready_ends, ended_ends}
use Rattle.lane_threads.proofs.job.run_left.Goals as goal
use Rattle.lane_threads.proofs.job.run_left.Goals.{in-Ready, in-Ended}

pub loop-slot-init : goal.loop-slot-init
loop-slot-init g c =
    let same = ap length c.from_vec-rest.ensures.items in
    let room = c.requires.room in (
      ending g.J.Job.can_run g.J.Job.ends c.args.context.now c.args.slots.items c.from_vec-rest.result.items c.args.ends.now.items
          c.from_vec-rest.ensures.items room.empty c.requires.left,
      omega (arith, same, room.none, room.room),
    )

pub loop-slot-preserved : goal.loop-slot-preserved
loop-slot-preserved g c =
    let before = c.loop-slot.invariant in
    let fewer = ap length c.in-Some.ensures.items in
    let end : EndsAs g.J.Job.ends c.args.context.now c.in-Some.slot (Ended c.match-slot.end) = elim c.match-slot.branch [
      | in-Ready w ↦ ready_ends g.J.Job.ends c.args.context.now c.in-Some.slot w.in-Ready.job c.match-slot.end w.run-end.result w.in-Ready.is w.run-end.ensures w.end-is
      | in-Ended w ↦ ended_ends g.J.Job.ends c.args.context.now c.in-Some.slot c.match-slot.end w.in-Ended.end w.in-Ended.is w.end-is
    ] in (
      ends_one g.J.Job.can_run g.J.Job.ends c.args.context.now c.args.slots.items c.loop-slot.rest.items c.pop_front.new.self.items c.loop-slot.ends.items c.push_reserved.new.self.items
          c.in-Some.slot (Ended c.match-slot.end) before.0 c.in-Some.ensures.items c.push_reserved.ensures.items end,
      omega (arith, fewer, before.1, c.push_reserved.ensures.len, c.push_reserved.ensures.capacity),
    )

pub returns : goal.returns
returns g c =
    all_done g.J.Job.can_run g.J.Job.ends c.args.context.now c.args.slots.items c.loop-slot.rest.items c.loop-slot.ends.items c.loop-slot.invariant.0 (search rules)
