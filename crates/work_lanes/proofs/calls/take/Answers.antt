use Rattle.work_queue.specs.declared.queue.Ask.TheVariants as ask
use Rattle.work_queue.specs.States.{MayBeShort, begun_by}
use Rattle.std.proofs.Common.{◌≡◌, ℕ, sym, subst}
use Rattle.std.specs.Prelude.{Ok}
use Rattle.work_lanes.specs.Calls.{HasTaken, HasBegun, state_at, begun_at}
use Rattle.work_lanes.proofs.Calling.{tells, came_so, taken_begun, refused_begun}
use Rattle.work_lanes.proofs.calls.take.Goals as goal

pub returns-in-Ok-clause-taken : goal.returns-in-Ok-clause-taken
returns-in-Ok-clause-taken g c =
    let number = g.K.Kind.number in
    let cancels = g.K.Kind.cancels in
    let p = c.args.caller.now.pass in
    let p' = c.ask.new.self.pass in
    subst (λ (k : ℕ). HasTaken k (Ok c.task_in.result) (state_at number cancels p')) (sym c.ask.ensures.same.1)
    (came_so number cancels p.lane p.seat.me.0.seen p'.seat.me.0.seen c.in-Ok.reply c.in-Ok.good c.task_in.result
    c.task_in.ensures.some
    (tells number cancels _ p.lane (λ h k a. MayBeShort a) p.seat.me.0 p'.seat.me.0 ask.Take
    c.in-Ok.reply c.in-Ok.good
    c.in-Ok.ensures.answer.0))

pub returns-in-Ok-clause-begun : goal.returns-in-Ok-clause-begun
returns-in-Ok-clause-begun g c =
    let number = g.K.Kind.number in
    let cancels = g.K.Kind.cancels in
    let p = c.args.caller.now.pass in
    let p' = c.ask.new.self.pass in
    subst (λ (k : ℕ). HasBegun (Ok c.task_in.result) (begun_at number cancels p)
    (begun_by k (state_at number cancels p').taken)) (sym c.ask.ensures.same.1)
    (taken_begun number cancels p.lane p.seat.me.0.seen p'.seat.me.0.seen c.in-Ok.reply c.in-Ok.good
    c.task_in.result c.task_in.ensures.some c.task_in.ensures.none
    (tells number cancels _ p.lane (λ h k a. MayBeShort a) p.seat.me.0 p'.seat.me.0 ask.Take
    c.in-Ok.reply c.in-Ok.good
    c.in-Ok.ensures.answer.0))

pub returns-clause-begun : goal.returns-clause-begun
returns-clause-begun g c =
    let number = g.K.Kind.number in
    let cancels = g.K.Kind.cancels in
    let p = c.args.caller.now.pass in
    let p' = c.ask.new.self.pass in
    subst (λ (k : ℕ). begun_by k (state_at number cancels p').taken ≡ begun_at number cancels p)
    (sym c.ask.ensures.same.1)
    (refused_begun number cancels p.lane p.seat.me.0.seen p'.seat.me.0.seen
    c.in-Err.ensures.refused.2.0)
