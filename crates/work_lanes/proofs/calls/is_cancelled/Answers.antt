use Rattle.work_queue.specs.declared.queue.Ask.TheVariants as ask
use Rattle.work_queue.specs.States.{MayBeShort}
use Rattle.std.proofs.Common.{sym, ◌∙◌}
use Rattle.work_lanes.proofs.Calling.{tells, look_begun, look_hand, look_stays, look_raised}
use Rattle.work_lanes.proofs.Calling.{refused_begun, refused_hand, refused_stays}
use Rattle.work_lanes.proofs.Lending.{owner_so, raised_so}
use Rattle.work_lanes.proofs.calls.is_cancelled.Goals as goal

pub returns-in-Ok-clause-same : goal.returns-in-Ok-clause-same
returns-in-Ok-clause-same g c =
    let number = g.K.Kind.number in
    let cancels = g.K.Kind.cancels in
    let p = c.args.caller.now.pass in
    let p' = c.call.new.self.pass in
    let told = (tells number cancels _ p.lane (λ h k a. MayBeShort a) p.seat.me.0 p'.seat.me.0 ask.IsCancelled
    c.in-Ok.reply c.in-Ok.field-0-1
    c.in-Ok.ensures.answer) in
    owner_so number cancels p p' c.call.ensures.same
    (look_begun number cancels p.lane p.seat.me.0.seen p'.seat.me.0.seen c.in-Ok.reply c.in-Ok.field-0-1 told)
    (look_hand number cancels p.lane p.seat.me.0.seen p'.seat.me.0.seen c.in-Ok.reply c.in-Ok.field-0-1 told)

pub returns-in-Ok-clause-stays : goal.returns-in-Ok-clause-stays
returns-in-Ok-clause-stays g c =
    let number = g.K.Kind.number in
    let cancels = g.K.Kind.cancels in
    let p = c.args.caller.now.pass in
    let p' = c.call.new.self.pass in
    λ was. raised_so number cancels p p' c.call.ensures.same
    (look_stays number cancels p.lane p.seat.me.0.seen p'.seat.me.0.seen c.in-Ok.reply c.in-Ok.field-0-1
    (tells number cancels _ p.lane (λ h k a. MayBeShort a) p.seat.me.0 p'.seat.me.0 ask.IsCancelled
    c.in-Ok.reply c.in-Ok.field-0-1
    c.in-Ok.ensures.answer) was)

pub returns-in-Ok-clause-raised : goal.returns-in-Ok-clause-raised
returns-in-Ok-clause-raised g c =
    let number = g.K.Kind.number in
    let cancels = g.K.Kind.cancels in
    let p = c.args.caller.now.pass in
    let p' = c.call.new.self.pass in
    λ yes. raised_so number cancels p p' c.call.ensures.same
    (look_raised number cancels p.lane p.seat.me.0.seen p'.seat.me.0.seen c.in-Ok.reply c.in-Ok.field-0-1
    (tells number cancels _ p.lane (λ h k a. MayBeShort a) p.seat.me.0 p'.seat.me.0 ask.IsCancelled
    c.in-Ok.reply c.in-Ok.field-0-1
    c.in-Ok.ensures.answer) (sym c.is_open.ensures ∙ yes))

pub returns-clause-same : goal.returns-clause-same
returns-clause-same g c =
    let number = g.K.Kind.number in
    let cancels = g.K.Kind.cancels in
    let p = c.args.caller.now.pass in
    let p' = c.call.new.self.pass in
    owner_so number cancels p p' c.call.ensures.same
    (refused_begun number cancels p.lane p.seat.me.0.seen p'.seat.me.0.seen c.in-Err.ensures.refused.2.0)
    (refused_hand number cancels p.lane p.seat.me.0.seen p'.seat.me.0.seen c.in-Err.ensures.refused.2.0)

pub returns-clause-stays : goal.returns-clause-stays
returns-clause-stays g c =
    let number = g.K.Kind.number in
    let cancels = g.K.Kind.cancels in
    let p = c.args.caller.now.pass in
    let p' = c.call.new.self.pass in
    λ was. raised_so number cancels p p' c.call.ensures.same
    (refused_stays number cancels p.lane p.seat.me.0.seen p'.seat.me.0.seen c.in-Err.ensures.refused.2.0 was)
