use Rattle.std.proofs.Common.{◌≡◌, true, false}
use Rattle.work_lanes.proofs.Lending.{lent_in_hand}
use Rattle.work_lanes.proofs.handling.handle.Goals as goal

pub returns-then-stopped-clause-hand : goal.returns-then-stopped-clause-hand
returns-then-stopped-clause-hand g c =
    let e = c.in_ok-response.ensures in
    lent_in_hand g.H.Kind.number g.H.Kind.cancels c.args.flag.now.caller.pass
    c.answer.new.flag.caller.pass c.args.request.now false false c.given_up.result.cancelled e.same
    (λ _. e.stops c.if-stopped.true) c.requires.hand

pub returns-clause-hand : goal.returns-clause-hand
returns-clause-hand g c =
    lent_in_hand g.H.Kind.number g.H.Kind.cancels c.args.flag.now.caller.pass
    c.answer.new.flag.caller.pass c.args.request.now false false false c.in_ok-response.ensures.same
    (λ raised. absurd (let e : false ≡ true = raised in cc)) c.requires.hand
