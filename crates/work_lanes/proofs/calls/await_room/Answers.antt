use Rattle.std.proofs.Common.{Bool, Ok, ap, sym, subst}
use Rattle.work_queue.specs.declared.queue.Ask.TheVariants as ask
use Rattle.work_queue.specs.States.{MayBeShort, Read}
use Rattle.work_lanes.specs.Calls.{HasRoom, is_open, read_at}
use Rattle.work_lanes.proofs.Calling.{tells, room_so, room_heard, refused_so}
use Rattle.work_lanes.proofs.calls.await_room.Goals as goal

pub returns-in-Ok-clause-heard : goal.returns-in-Ok-clause-heard
returns-in-Ok-clause-heard g c =
    let number = g.K.Kind.number in
    let cancels = g.K.Kind.cancels in
    let p = c.args.caller.now.pass in
    let p' = c.ask.new.self.pass in
    room_heard c.args.depth (is_open c.in-Ok.reply) (read_at number cancels p)
    (read_at number cancels p')
    (room_so number cancels p.lane c.args.depth p.seat.me.0.seen p'.seat.me.0.seen c.in-Ok.reply
    c.in-Ok.field-0-1 c.requires.lane
    (tells number cancels _ p.lane (λ h k a. MayBeShort a) p.seat.me.0 p'.seat.me.0 (ask.Room c.args.depth)
    c.in-Ok.reply c.in-Ok.field-0-1
    c.in-Ok.ensures.answer.0))

pub returns-in-Ok-clause-room : goal.returns-in-Ok-clause-room
returns-in-Ok-clause-room g c =
    let number = g.K.Kind.number in
    let cancels = g.K.Kind.cancels in
    let p = c.args.caller.now.pass in
    let p' = c.ask.new.self.pass in
    subst (λ (b : Bool). HasRoom c.args.depth (Ok b) (read_at number cancels p)
    (read_at number cancels p')) (sym c.is_open.ensures)
    (room_so number cancels p.lane c.args.depth p.seat.me.0.seen p'.seat.me.0.seen c.in-Ok.reply
    c.in-Ok.field-0-1 c.requires.lane
    (tells number cancels _ p.lane (λ h k a. MayBeShort a) p.seat.me.0 p'.seat.me.0 (ask.Room c.args.depth)
    c.in-Ok.reply c.in-Ok.field-0-1
    c.in-Ok.ensures.answer.0))

pub returns-clause-heard : goal.returns-clause-heard
returns-clause-heard g c =
    let number = g.K.Kind.number in
    let cancels = g.K.Kind.cancels in
    let p = c.args.caller.now.pass in
    ap (λ (r : Read g.row.X.Denot). r.heard)
    (refused_so number cancels p.lane p.seat.me.0.seen c.ask.new.self.pass.seat.me.0.seen
    c.requires.lane c.in-Err.ensures.refused.2.0)

pub returns-clause-room : goal.returns-clause-room
returns-clause-room g c =
    let number = g.K.Kind.number in
    let cancels = g.K.Kind.cancels in
    let p = c.args.caller.now.pass in
    refused_so number cancels p.lane p.seat.me.0.seen c.ask.new.self.pass.seat.me.0.seen
    c.requires.lane c.in-Err.ensures.refused.2.0
