use Rattle.std.proofs.Common.{ap}
use Rattle.work_queue.specs.declared.queue.Ask.TheVariants as ask
use Rattle.work_queue.specs.States.{Read}
use Rattle.work_lanes.proofs.Calling.{tells, close_so}
use Rattle.work_lanes.proofs.calls.close.Goals as goal

pub returns-clause-heard : goal.returns-clause-heard
returns-clause-heard g c =
    let number = g.K.Kind.number in
    let cancels = g.K.Kind.cancels in
    let p = c.args.caller.now.pass in
    let p' = c.call_paid.new.self.pass in
    ap (λ (r : Read g.row.X.Denot). r.heard)
    (close_so number cancels p.lane p.seat.me.0.seen p'.seat.me.0.seen c.call_paid.result.0
    c.call_paid.result.1 c.requires.lane
    (tells number cancels _ p.lane (λ h k a. ⊥) p.seat.me.0 p'.seat.me.0 ask.Close c.call_paid.result.0
    c.call_paid.result.1 c.call_paid.ensures.answer))

pub returns-clause-most : goal.returns-clause-most
returns-clause-most g c =
    let number = g.K.Kind.number in
    let cancels = g.K.Kind.cancels in
    let p = c.args.caller.now.pass in
    let p' = c.call_paid.new.self.pass in
    ap (λ (r : Read g.row.X.Denot). r.most)
    (close_so number cancels p.lane p.seat.me.0.seen p'.seat.me.0.seen c.call_paid.result.0
    c.call_paid.result.1 c.requires.lane
    (tells number cancels _ p.lane (λ h k a. ⊥) p.seat.me.0 p'.seat.me.0 ask.Close c.call_paid.result.0
    c.call_paid.result.1 c.call_paid.ensures.answer))
