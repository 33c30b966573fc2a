use Rattle.message_box.proofs.Sided.{called_paid, looks}
use Rattle.message_box.proofs.reading.look.Goals as goal

pub returns-clause-stands : goal.returns-clause-stands
returns-clause-stands g c =
    let p = c.args.caller.now.pass in
    looks p.lane _ c.args.question c.call_paid.result.0 c.call_paid.result.1 _ c.requires.lane
    c.requires.looks
    (called_paid _ p.lane p.seat.me.0 c.call_paid.new.self.pass.seat.me.0
    c.args.question c.call_paid.result.0 c.call_paid.result.1
    c.call_paid.ensures.answer)
