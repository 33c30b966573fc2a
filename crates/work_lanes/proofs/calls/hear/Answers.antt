use Rattle.work_queue.specs.declared.queue.Ask.TheVariants as ask
use Rattle.work_queue.specs.States.{MayBeShort, Read}
use Rattle.std.proofs.Common.{sym, subst, ap, Result}
use Rattle.plain_values.specs.declared.no_memory.NoMemory.{NoMemory}
use Rattle.work_lanes.specs.Calls.{HasHeard, heard_at, read_at, done_by}
use Rattle.work_lanes.proofs.Calling.{tells, hear_so, heard_of, more_of, more_same, refused_so}
use Rattle.work_lanes.proofs.calls.hear.Goals as goal

pub returns-in-Ok-clause-heard : goal.returns-in-Ok-clause-heard
returns-in-Ok-clause-heard g c =
    let number = g.K.Kind.number in
    let cancels = g.K.Kind.cancels in
    let p = c.args.caller.now.pass in
    let p' = c.call.new.self.pass in
    subst (λ (r : Result (Unit {0}) NoMemory). HasHeard c.args.request r (heard_at number cancels p)
    (heard_at number cancels p')) (sym c.done_by.ensures)
    (heard_of cancels c.args.request (done_by c.in-Ok.reply) (read_at number cancels p)
    (read_at number cancels p') (hear_so number cancels p.lane p.seat.me.0.seen p'.seat.me.0.seen c.args.request
    (ask.Hear c.of-about.result) c.of-about.ensures c.in-Ok.reply c.in-Ok.field-0-1
    c.requires.lane
    (tells number cancels _ p.lane (λ h k a. MayBeShort a) p.seat.me.0 p'.seat.me.0
    (ask.Hear c.of-about.result) c.in-Ok.reply c.in-Ok.field-0-1 c.in-Ok.ensures.answer)))

pub returns-in-Ok-clause-more : goal.returns-in-Ok-clause-more
returns-in-Ok-clause-more g c =
    let number = g.K.Kind.number in
    let cancels = g.K.Kind.cancels in
    let p = c.args.caller.now.pass in
    let p' = c.call.new.self.pass in
    more_of cancels c.args.request (done_by c.in-Ok.reply) (read_at number cancels p)
    (read_at number cancels p') (hear_so number cancels p.lane p.seat.me.0.seen p'.seat.me.0.seen
    c.args.request (ask.Hear c.of-about.result) c.of-about.ensures c.in-Ok.reply c.in-Ok.field-0-1
    c.requires.lane
    (tells number cancels _ p.lane (λ h k a. MayBeShort a) p.seat.me.0 p'.seat.me.0
    (ask.Hear c.of-about.result) c.in-Ok.reply c.in-Ok.field-0-1 c.in-Ok.ensures.answer))

pub returns-clause-heard : goal.returns-clause-heard
returns-clause-heard g c =
    let number = g.K.Kind.number in
    let cancels = g.K.Kind.cancels in
    let p = c.args.caller.now.pass in
    ap (λ (r : Read g.row.X.Denot). r.heard)
    (refused_so number cancels p.lane p.seat.me.0.seen c.call.new.self.pass.seat.me.0.seen
    c.requires.lane c.in-Err.ensures.refused.2.0)

pub returns-clause-more : goal.returns-clause-more
returns-clause-more g c =
    let number = g.K.Kind.number in
    let cancels = g.K.Kind.cancels in
    let p = c.args.caller.now.pass in
    more_same (read_at number cancels p) (read_at number cancels c.call.new.self.pass)
    (refused_so number cancels p.lane p.seat.me.0.seen c.call.new.self.pass.seat.me.0.seen
    c.requires.lane c.in-Err.ensures.refused.2.0)
