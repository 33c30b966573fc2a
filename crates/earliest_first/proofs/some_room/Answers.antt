use Rattle.std.proofs.Common.{◌<◌, sym, ◌∙◌, arith}
use Rattle.run_plan.specs.Groups.{berths}
use Rattle.core_tables.proofs.Seated.{seat_fits}
use Rattle.earliest_first.proofs.AtBerths.{seat_within}
use Rattle.earliest_first.proofs.Roomed.{found_room}
use Rattle.earliest_first.proofs.some_room.Goals as goal

pub overflow_add-seat : goal.overflow_add-seat
overflow_add-seat c =
    let own = c.requires.reads in
    let seats = own.seats in
    let lt : c.args.berth < berths c.args.state.now.plan =
    seat_within c.args.state.now.plan c.args.berth c.args.seat c.requires.seated in
    let h = seat_fits c.args.state.now.plan c.args.berth c.args.seat lt c.requires.seated in
    let few = own.reads.few in
    let below = c.loop-number-test.true in
    omega arith

pub has_room-requires : goal.has_room-requires
has_room-requires c =
    let own = c.requires.reads in
    let seats = own.seats in
    let lt : c.args.berth < berths c.args.state.now.plan =
    seat_within c.args.state.now.plan c.args.berth c.args.seat c.requires.seated in
    let h = seat_fits c.args.state.now.plan c.args.berth c.args.seat lt c.requires.seated in
    let below = c.loop-number-test.true in
    omega arith

pub returns-then-has_room : goal.returns-then-has_room
returns-then-has_room c = sym (found_room c.args.state.now.pool c.args.seat.first
    c.loop-number.number c.args.seat.berths c.loop-number-test.true
    (sym c.has_room.ensures ∙ c.if-has_room.true))
