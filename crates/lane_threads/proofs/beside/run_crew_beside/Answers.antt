use Rattle.std.proofs.Common.{ℕ, sym, ◌∙◌, subst, arith}
use Rattle.seat_desk.specs.Turns.{NoneFrom}
use Rattle.lane_threads.proofs.Listed.{same_parts}
use Rattle.lane_threads.proofs.Crewed.{as_many, one_at_most, as_many_ends}
use Rattle.lane_threads.proofs.Crewed.{all_may, all_keep, all_have_parts, all_end}
use Rattle.lane_threads.proofs.beside.run_crew_beside.Goals as goal

pub run_crew-requires-clause-may_run : goal.run_crew-requires-clause-may_run
run_crew-requires-clause-may_run g c κs within =
    all_may g.L.Lane.may_run g.X.Lane.may_run (g.M.Machine.basis c.args.machine)
    c.args.lanes.items c.args.beside c.lay_together.new.all.items c.lay_together.ensures
    c.requires.may_run c.requires.may_run_beside

pub run_crew-requires-clause-same : goal.run_crew-requires-clause-same
run_crew-requires-clause-same g c κs within =
    all_keep g.L.Lane.has_run g.X.Lane.has_run c.requires.same c.requires.same_beside

pub take_apart-beside-requires-clause-parts : goal.take_apart-beside-requires-clause-parts
take_apart-beside-requires-clause-parts g c =
    all_have_parts g.L.Lane.has_run g.X.Lane.has_run (g.M.Machine.basis c.args.machine)
    c.in-Ok-run_crew.left.history.items c.args.lanes.items c.args.beside
    c.lay_together.new.all.items c.in-Ok-run_crew.left.ends.items c.lay_together.ensures
    c.in-Ok-run_crew.ensures.lanes

pub take_apart-beside-requires-clause-room : goal.take_apart-beside-requires-clause-room
take_apart-beside-requires-clause-room g c =
    let ends = as_many_ends _ (g.M.Machine.basis c.args.machine)
    c.in-Ok-run_crew.left.history.items c.lay_together.new.all.items
    c.in-Ok-run_crew.left.ends.items c.in-Ok-run_crew.ensures.lanes in
    let laid = as_many c.args.lanes.items c.args.beside c.lay_together.new.all.items
    c.lay_together.ensures in
    let one = one_at_most c.args.beside in
    let room = c.in-Ok.ensures.ends in
    record {
      empty = room.empty;
      none = room.none;
      room = omega (arith, ends, laid, one, room.room, c.len.ensures);
    }

pub take_apart-beside-requires-in-Err-clause-room
    : goal.take_apart-beside-requires-in-Err-clause-room
take_apart-beside-requires-in-Err-clause-room g c =
    let laid = as_many c.args.lanes.items c.args.beside c.in-Err.unstarted.lanes.items
    (c.in-Err.ensures.back.0 ∙ c.lay_together.ensures) in
    let one = one_at_most c.args.beside in
    let room = c.in-Ok.ensures.lanes in
    record {
      empty = room.empty;
      none = room.none;
      room = omega (arith, laid, one, room.room, c.len.ensures);
    }

pub returns-in-Ok-run_crew-clause-lanes : goal.returns-in-Ok-run_crew-clause-lanes
returns-in-Ok-run_crew-clause-lanes g c =
    (all_end g.L.Lane.has_run g.X.Lane.has_run (g.M.Machine.basis c.args.machine)
    c.in-Ok-run_crew.left.history.items c.args.lanes.items c.args.beside
    c.lay_together.new.all.items c.in-Ok-run_crew.left.ends.items
    c.take_apart-beside.new.others.items c.take_apart-beside.result c.lay_together.ensures
    c.take_apart-beside.ensures c.in-Ok-run_crew.ensures.lanes).0

pub returns-in-Ok-run_crew-clause-beside : goal.returns-in-Ok-run_crew-clause-beside
returns-in-Ok-run_crew-clause-beside g c =
    (all_end g.L.Lane.has_run g.X.Lane.has_run (g.M.Machine.basis c.args.machine)
    c.in-Ok-run_crew.left.history.items c.args.lanes.items c.args.beside
    c.lay_together.new.all.items c.in-Ok-run_crew.left.ends.items
    c.take_apart-beside.new.others.items c.take_apart-beside.result c.lay_together.ensures
    c.take_apart-beside.ensures c.in-Ok-run_crew.ensures.lanes).1

pub returns-in-Ok-run_crew-clause-others : goal.returns-in-Ok-run_crew-clause-others
returns-in-Ok-run_crew-clause-others g c =
    subst (λ (n : ℕ). NoneFrom n c.in-Ok-run_crew.left.history.items)
    (as_many c.args.lanes.items c.args.beside c.lay_together.new.all.items c.lay_together.ensures)
    c.in-Ok-run_crew.ensures.others

pub returns-in-Err-clause-back : goal.returns-in-Err-clause-back
returns-in-Err-clause-back g c =
    let same = same_parts c.take_apart-beside-in-Err.new.others.items c.args.lanes.items
    c.take_apart-beside-in-Err.result c.args.beside
    (sym c.take_apart-beside-in-Err.ensures
    ∙ (c.in-Err.ensures.back.0 ∙ c.lay_together.ensures)) in
    (same.0, same.1, c.in-Err.ensures.back.1)
