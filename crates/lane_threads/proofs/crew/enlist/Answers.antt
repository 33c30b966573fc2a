use Rattle.std.proofs.Common.{List, length, ap, sym, subst, arith}
use Rattle.seat_desk.specs.Passes.{root_basis}
use Rattle.lane_threads.specs.declared.job.Slot.{Slot}
use Rattle.lane_threads.specs.declared.lane_job.LaneJob.{LaneJob}
use Rattle.lane_threads.specs.declared.lane_job.LaneDone.{LaneDone}
use Rattle.lane_threads.proofs.Enlisting.{Enlisting, enlists, enlists_one}
use Rattle.lane_threads.proofs.crew.enlist.Goals as goal

pub loop-lane-init : goal.loop-lane-init
loop-lane-init g c =
    let same = ap length c.from_vec-rest.ensures.items in
    let room = c.requires.room in (
      subst (λ (ps : List (Slot (LaneJob g.row.M.Denot g.row.L.Denot g.row.M-Call.Denot g.row.M-Reply.Denot g.row.M-Good.Denot g.row.M-Basis.Denot g.M.Machine) (LaneDone g.row.M.Denot g.row.E.Denot g.row.M-Call.Denot g.row.M-Reply.Denot g.row.M-Good.Denot g.row.M-Basis.Denot g.M.Machine))). Enlisting c.args.desk.now (root_basis c.args.root.now) c.args.lanes.items c.from_vec-rest.result.items ps c.args.root.now) (sym room.empty)
          (enlists c.args.desk.now c.args.lanes.items c.from_vec-rest.result.items c.args.root.now c.requires.desk c.requires.new c.from_vec-rest.ensures.items),
      omega (arith, same, room.none, room.room),
      c.requires.few,
    )

pub loop-lane-preserved : goal.loop-lane-preserved
loop-lane-preserved g c =
    let before = c.loop-lane.invariant in
    let one = enlists_one c.args.desk.now (root_basis c.args.root.now) c.args.lanes.items c.loop-lane.rest.items c.pop_front.new.self.items c.loop-lane.slots.items
    c.loop-lane.root c.split-pass.new.root c.in-Some.lane c.split-pass.result before.0 c.in-Some.ensures.items c.split-pass.ensures.root c.split-pass.ensures.pass in
    let fewer = ap length c.in-Some.ensures.items in (
      subst (λ (ps : List (Slot (LaneJob g.row.M.Denot g.row.L.Denot g.row.M-Call.Denot g.row.M-Reply.Denot g.row.M-Good.Denot g.row.M-Basis.Denot g.M.Machine) (LaneDone g.row.M.Denot g.row.E.Denot g.row.M-Call.Denot g.row.M-Reply.Denot g.row.M-Good.Denot g.row.M-Basis.Denot g.M.Machine))). Enlisting c.args.desk.now (root_basis c.args.root.now) c.args.lanes.items c.pop_front.new.self.items ps c.split-pass.new.root) (sym c.push_reserved.ensures.items) one,
      omega (arith, fewer, before.1, c.push_reserved.ensures.len, c.push_reserved.ensures.capacity),
      before.2,
    )
