use Rattle.std.proofs.Common.{◌≡◌, ℕ, sym, subst}
use Rattle.work_queue.specs.declared.queue.Ask.TheVariants as ask
use Rattle.work_queue.specs.States.{begun_by}
use Rattle.work_lanes.specs.Calls.{state_at, begun_at}
use Rattle.work_lanes.proofs.Calling.{tells, halt_begun}
use Rattle.work_lanes.proofs.calls.halt.Goals as goal

pub returns-clause-begun : goal.returns-clause-begun
returns-clause-begun g c =
    let number = g.K.Kind.number in
    let cancels = g.K.Kind.cancels in
    let p = c.args.caller.now.pass in
    let p' = c.call_paid.new.self.pass in
    subst (λ (k : ℕ). begun_by k (state_at number cancels p').taken ≡ begun_at number cancels p)
    (sym c.call_paid.ensures.same.1)
    (halt_begun number cancels p.lane p.seat.me.0.seen p'.seat.me.0.seen c.call_paid.result.0
    c.call_paid.result.1
    (tells number cancels _ p.lane (λ h k a. ⊥) p.seat.me.0 p'.seat.me.0 ask.Halt
    c.call_paid.result.0 c.call_paid.result.1 c.call_paid.ensures.answer))
