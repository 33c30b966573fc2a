use Rattle.std.proofs.Common.{◌≡◌, ℕ, List, length, ap, sym, subst, arith, ◌∙◌}
use Rattle.plain_values.specs.declared.entry.Entry.{Entry}
use Rattle.seat_desk.specs.Passes.{root_basis, root_seen, joined}
use Rattle.seat_desk.specs.Turns.{NoneFrom}
use Rattle.lane_threads.specs.declared.job.Slot.{Slot}
use Rattle.lane_threads.specs.declared.lane_job.Shared.{Shared}
use Rattle.lane_threads.specs.declared.lane_job.LaneJob.{LaneJob}
use Rattle.lane_threads.specs.declared.lane_job.LaneDone.{LaneDone}
use Rattle.lane_threads.specs.LaneJobs.{JobsFrom}
use Rattle.lane_threads.proofs.Crews.{all_may_run, all_have_ends, as_many_joined, each_lane}
use Rattle.lane_threads.proofs.Quiet.{quiet}
use Rattle.lane_threads.proofs.Enlisting.{as_many_jobs, same_lanes}
use Rattle.lane_threads.proofs.crew.run_crew.Goals as goal

pub run_list-ran-requires-after_bounds : goal.run_list-ran-requires-after_bounds
run_list-ran-requires-after_bounds g c κs within =
    let q = g.M.Machine.basis c.args.machine in
    let desk = c.in-Ok-new_or_back.opened.0 in
    let by : root_basis c.in-Ok-new_or_back.opened.1 ≡ q = ap (λ v. v.basis) c.in-Ok-new_or_back.ensures.desk.1.1 in
    let shared : Shared g.row.M.Denot g.row.M-Call.Denot g.row.M-Reply.Denot g.row.M-Good.Denot g.row.M-Basis.Denot = record { desk = desk; bells = c.in-Ok.room.bells } in
    let jobs : JobsFrom desk q 0 c.args.lanes.items c.enlist.new.slots.items =
    subst (λ (r : g.row.M-Basis.Denot). JobsFrom desk r 0 c.args.lanes.items c.enlist.new.slots.items) by c.enlist.ensures.slots in
    all_may_run g.L.Lane.may_run shared q 0 c.args.lanes.items c.enlist.new.slots.items jobs c.requires.may_run
    (omega (arith, c.in-Ok.ensures.bells, c.len.ensures))

pub collect-requires-clause-done : goal.collect-requires-clause-done
collect-requires-clause-done g c =
    let q = g.M.Machine.basis c.args.machine in
    let desk = c.in-Ok-new_or_back.opened.0 in
    let by : root_basis c.in-Ok-new_or_back.opened.1 ≡ q = ap (λ v. v.basis) c.in-Ok-new_or_back.ensures.desk.1.1 in
    let shared : Shared g.row.M.Denot g.row.M-Call.Denot g.row.M-Reply.Denot g.row.M-Good.Denot g.row.M-Basis.Denot = record { desk = desk; bells = c.in-Ok.room.bells } in
    let jobs : JobsFrom desk q 0 c.args.lanes.items c.enlist.new.slots.items =
    subst (λ (r : g.row.M-Basis.Denot). JobsFrom desk r 0 c.args.lanes.items c.enlist.new.slots.items) by c.enlist.ensures.slots in
    (all_have_ends g.L.Lane.has_run c.requires.same shared q 0 c.args.lanes.items c.enlist.new.slots.items c.in-Ok-ran.slots.items jobs c.in-Ok-ran.ensures.ends).0

pub collect-requires-clause-room : goal.collect-requires-clause-room
collect-requires-clause-room g c =
    let q = g.M.Machine.basis c.args.machine in
    let desk = c.in-Ok-new_or_back.opened.0 in
    let by : root_basis c.in-Ok-new_or_back.opened.1 ≡ q = ap (λ v. v.basis) c.in-Ok-new_or_back.ensures.desk.1.1 in
    let shared : Shared g.row.M.Denot g.row.M-Call.Denot g.row.M-Reply.Denot g.row.M-Good.Denot g.row.M-Basis.Denot = record { desk = desk; bells = c.in-Ok.room.bells } in
    let jobs : JobsFrom desk q 0 c.args.lanes.items c.enlist.new.slots.items =
    subst (λ (r : g.row.M-Basis.Denot). JobsFrom desk r 0 c.args.lanes.items c.enlist.new.slots.items) by c.enlist.ensures.slots in
    let many = (all_have_ends g.L.Lane.has_run c.requires.same shared q 0 c.args.lanes.items c.enlist.new.slots.items c.in-Ok-ran.slots.items jobs c.in-Ok-ran.ensures.ends).1 in
    let room = c.in-Ok.ensures.ends in
    record { empty = room.empty; none = room.none; room = omega (arith, many, room.room, c.len.ensures) }

pub close-machine-requires-clause-all : goal.close-machine-requires-clause-all
close-machine-requires-clause-all g c =
    let q = g.M.Machine.basis c.args.machine in
    let desk = c.in-Ok-new_or_back.opened.0 in
    let by : root_basis c.in-Ok-new_or_back.opened.1 ≡ q = ap (λ v. v.basis) c.in-Ok-new_or_back.ensures.desk.1.1 in
    let shared : Shared g.row.M.Denot g.row.M-Call.Denot g.row.M-Reply.Denot g.row.M-Good.Denot g.row.M-Basis.Denot = record { desk = desk; bells = c.in-Ok.room.bells } in
    let jobs : JobsFrom desk q 0 c.args.lanes.items c.enlist.new.slots.items =
    subst (λ (r : g.row.M-Basis.Denot). JobsFrom desk r 0 c.args.lanes.items c.enlist.new.slots.items) by c.enlist.ensures.slots in
    let many = (all_have_ends g.L.Lane.has_run c.requires.same shared q 0 c.args.lanes.items c.enlist.new.slots.items c.in-Ok-ran.slots.items jobs c.in-Ok-ran.ensures.ends).1 in
    as_many_joined (root_seen c.collect.new.root) c.in-Ok-ran.slots.items c.collect.new.ends.items (joined c.collect.new.root) c.collect.ensures.handed
    ∙ (many ∙ sym (c.collect.ensures.root.1 ∙ c.enlist.ensures.root.1))

pub returns-in-Ok-ran-clause-lanes : goal.returns-in-Ok-ran-clause-lanes
returns-in-Ok-ran-clause-lanes g c =
    let q = g.M.Machine.basis c.args.machine in
    let desk = c.in-Ok-new_or_back.opened.0 in
    let by : root_basis c.in-Ok-new_or_back.opened.1 ≡ q = ap (λ v. v.basis) c.in-Ok-new_or_back.ensures.desk.1.1 in
    let shared : Shared g.row.M.Denot g.row.M-Call.Denot g.row.M-Reply.Denot g.row.M-Good.Denot g.row.M-Basis.Denot = record { desk = desk; bells = c.in-Ok.room.bells } in
    let jobs : JobsFrom desk q 0 c.args.lanes.items c.enlist.new.slots.items =
    subst (λ (r : g.row.M-Basis.Denot). JobsFrom desk r 0 c.args.lanes.items c.enlist.new.slots.items) by c.enlist.ensures.slots in
    each_lane g.L.Lane.has_run c.requires.same shared q (root_seen c.collect.new.root) c.close-machine.result.history.items 0 c.args.lanes.items
    c.enlist.new.slots.items c.in-Ok-ran.slots.items c.collect.new.ends.items (joined c.collect.new.root)
    jobs c.in-Ok-ran.ensures.ends c.collect.ensures.handed c.close-machine.ensures.joined c.close-machine.ensures.seen

pub returns-in-Ok-ran-clause-others : goal.returns-in-Ok-ran-clause-others
returns-in-Ok-ran-clause-others g c =
    subst (λ (n : ℕ). NoneFrom n c.close-machine.result.history.items) (c.collect.ensures.root.1 ∙ c.enlist.ensures.root.1) c.close-machine.ensures.others

pub dismiss-requires-clause-room : goal.dismiss-requires-clause-room
dismiss-requires-clause-room g c =
    let desk = c.in-Ok-new_or_back.opened.0 in
    let many = as_many_jobs desk (root_basis c.in-Ok-new_or_back.opened.1) 0 c.args.lanes.items c.enlist.new.slots.items c.enlist.ensures.slots in
    let back = ap length c.in-Err-ran.ensures.back in
    let room = c.in-Ok.ensures.lanes in
    record { empty = room.empty; none = room.none; room = omega (arith, many, back, room.room, c.len.ensures) }

pub close-machine-requires-in-Err-ran-clause-all : goal.close-machine-requires-in-Err-ran-clause-all
close-machine-requires-in-Err-ran-clause-all g c =
    let desk = c.in-Ok-new_or_back.opened.0 in
    let many = as_many_jobs desk (root_basis c.in-Ok-new_or_back.opened.1) 0 c.args.lanes.items c.enlist.new.slots.items c.enlist.ensures.slots in
    let back = ap length c.in-Err-ran.ensures.back in
    c.dismiss.ensures.idle.as_many ∙ (back ∙ (sym many ∙ sym (c.dismiss.ensures.root.1 ∙ c.enlist.ensures.root.1)))

pub returns-in-Err-ran-clause-back : goal.returns-in-Err-ran-clause-back
returns-in-Err-ran-clause-back g c =
    let q = g.M.Machine.basis c.args.machine in
    let desk = c.in-Ok-new_or_back.opened.0 in
    let by : root_basis c.in-Ok-new_or_back.opened.1 ≡ q = ap (λ v. v.basis) c.in-Ok-new_or_back.ensures.desk.1.1 in
    let shared : Shared g.row.M.Denot g.row.M-Call.Denot g.row.M-Reply.Denot g.row.M-Good.Denot g.row.M-Basis.Denot = record { desk = desk; bells = c.in-Ok.room.bells } in
    let jobs : JobsFrom desk q 0 c.args.lanes.items c.enlist.new.slots.items =
    subst (λ (r : g.row.M-Basis.Denot). JobsFrom desk r 0 c.args.lanes.items c.enlist.new.slots.items) by c.enlist.ensures.slots in
    let many = as_many_jobs desk (root_basis c.in-Ok-new_or_back.opened.1) 0 c.args.lanes.items c.enlist.new.slots.items c.enlist.ensures.slots in
    let back = ap length c.in-Err-ran.ensures.back in
    let made : c.dismiss.new.root.made ≡ length c.in-Err-ran.left.slots.items = (c.dismiss.ensures.root.1 ∙ c.enlist.ensures.root.1) ∙ (many ∙ sym back) in
    let none = quiet (length c.in-Err-ran.left.slots.items) (joined c.dismiss.new.root) c.close-machine-in-Err-ran.result.history.items c.dismiss.ensures.idle c.close-machine-in-Err-ran.ensures.joined
    (subst (λ (n : ℕ). NoneFrom n c.close-machine-in-Err-ran.result.history.items) made c.close-machine-in-Err-ran.ensures.others) in
    let dismissed = subst (λ (ps : List (Slot (LaneJob g.row.M.Denot g.row.L.Denot g.row.M-Call.Denot g.row.M-Reply.Denot g.row.M-Good.Denot g.row.M-Basis.Denot g.M.Machine) (LaneDone g.row.M.Denot g.row.L-End.Denot g.row.M-Call.Denot g.row.M-Reply.Denot g.row.M-Good.Denot g.row.M-Basis.Denot g.M.Machine))). JobsFrom desk q 0 c.dismiss.new.lanes.items ps) c.in-Err-ran.ensures.back
    (subst (λ (r : g.row.M-Basis.Denot). JobsFrom desk r 0 c.dismiss.new.lanes.items c.in-Err-ran.left.slots.items) (c.enlist.ensures.root.3 ∙ by) c.dismiss.ensures.lanes) in (
      same_lanes desk q 0 c.dismiss.new.lanes.items c.args.lanes.items c.enlist.new.slots.items dismissed jobs,
      (
        subst (λ (h : List (Entry g.row.M-Call.Denot g.row.M-Reply.Denot)). g.M.Machine.stands c.close-machine-in-Err-ran.result.machine h) none c.close-machine-in-Err-ran.ensures.stands.0,
        c.close-machine-in-Err-ran.ensures.stands.1 ∙ (c.dismiss.ensures.root.2 ∙ (c.enlist.ensures.root.3 ∙ by)),
      ),
    )
