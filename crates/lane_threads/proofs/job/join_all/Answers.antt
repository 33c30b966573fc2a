use Rattle.std.proofs.Common.{length, ap, arith, refl, rules}
use Rattle.lane_threads.proofs.Starts.{joins, joins_one, joined_all}
use Rattle.lane_threads.proofs.job.join_all.Goals as goal

pub loop-thread-init : goal.loop-thread-init
loop-thread-init g c =
    let same = ap length c.from_vec-rest.ensures.items in
    let room = c.requires.room in (
      joins g.J.Job.ends c.args.threads.items c.from_vec-rest.result.items c.args.ends.now.items c.from_vec-rest.ensures.items room.empty,
      omega (arith, same, room.none, room.room),
      omega (arith, same, room.none),
      refl,
    )

pub loop-thread-preserved : goal.loop-thread-preserved
loop-thread-preserved g c =
    let before = c.loop-thread.invariant in
    let fewer = ap length c.in-Some.ensures.items in (
      joins_one g.J.Job.ends c.args.threads.items c.loop-thread.rest.items c.pop_front.new.self.items c.loop-thread.ends.items c.push_reserved.new.self.items
          c.in-Some.thread c.join.result before.0 c.in-Some.ensures.items c.push_reserved.ensures.items c.join.ensures,
      omega (arith, fewer, before.1, c.push_reserved.ensures.len, c.push_reserved.ensures.capacity),
      omega (arith, fewer, before.2, c.push_reserved.ensures.len),
      omega (arith, before.3, c.push_reserved.ensures.capacity),
    )

pub returns-clause-kept : goal.returns-clause-kept
returns-clause-kept g c = λ context all.
    joined_all g.J.Job.ends c.args.threads.items c.loop-thread.rest.items c.loop-thread.ends.items context c.loop-thread.invariant.0 (search rules) all
