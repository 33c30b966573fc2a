use Rattle.message_box.specs.declared.mailbox.Ask.TheVariants as ask
use Rattle.message_box.proofs.Sided.{called_paid, has_left}
use Rattle.message_box.proofs.taking.leave.Goals as goal

pub returns-clause-left : goal.returns-clause-left
returns-clause-left g c =
    let p = c.args.caller.now.pass in
    has_left p.lane _ c.call_paid.result.0 c.call_paid.result.1 _ c.requires.lane
    (called_paid _ p.lane p.seat.me.0 c.call_paid.new.self.pass.seat.me.0
    ask.Leave c.call_paid.result.0 c.call_paid.result.1
    c.call_paid.ensures.answer)
