use Rattle.std.proofs.Common.{◌≡◌, ℕ, refl, ap, sym, subst, ◌∙◌}
use Rattle.work_queue.specs.declared.queue.Ask.TheVariants as ask
use Rattle.work_queue.specs.States.{MayBeShort, begun_by}
use Rattle.work_lanes.specs.Calls.{state_at, begun_at}
use Rattle.work_lanes.proofs.Calling.{tells, put_begun, refused_begun}
use Rattle.work_lanes.proofs.calls.answer.Goals as goal

pub call-requires : goal.call-requires
call-requires g c =
    let hand = c.requires.hand in
    let says = c.requires.says in (
      hand.task,
      c.args.bytes,
      hand.here,
      (
        c.args.cancelled,
        hand.marked,
        subst (λ (r : g.row.Y.Denot). g.K.Kind.says hand.task.work.request
            c.args.cancelled r) (sym c.of-about.ensures)
            (subst (λ (m : g.row.X.Denot). g.K.Kind.says m c.args.cancelled
            c.args.response) (sym hand.is) says),
        λ e. c.requires.begun (sym hand.begun ∙ e),
      ),
      refl,
      c.requires.written ∙ ap g.K.Kind.written (sym c.of-about.ensures),
    )

pub returns-in-Ok-clause-begun : goal.returns-in-Ok-clause-begun
returns-in-Ok-clause-begun g c =
    let number = g.K.Kind.number in
    let cancels = g.K.Kind.cancels in
    let p = c.args.caller.now.pass in
    let p' = c.call.new.self.pass in
    subst (λ (k : ℕ). begun_by k (state_at number cancels p').taken ≡ begun_at number cancels p)
    (sym c.call.ensures.same.1)
    (put_begun number cancels p.lane p.seat.me.0.seen p'.seat.me.0.seen c.of-about.result c.in-Ok.reply
    c.in-Ok.field-0-1
    (tells number cancels _ p.lane (λ h k a. MayBeShort a) p.seat.me.0 p'.seat.me.0 (ask.Answer c.of-about.result)
    c.in-Ok.reply c.in-Ok.field-0-1
    c.in-Ok.ensures.answer))

pub returns-clause-begun : goal.returns-clause-begun
returns-clause-begun g c =
    let number = g.K.Kind.number in
    let cancels = g.K.Kind.cancels in
    let p = c.args.caller.now.pass in
    let p' = c.call.new.self.pass in
    subst (λ (k : ℕ). begun_by k (state_at number cancels p').taken ≡ begun_at number cancels p)
    (sym c.call.ensures.same.1)
    (refused_begun number cancels p.lane p.seat.me.0.seen p'.seat.me.0.seen
    c.in-Err.ensures.refused.2.0)
