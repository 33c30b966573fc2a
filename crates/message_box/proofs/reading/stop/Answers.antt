use Rattle.message_box.specs.declared.mailbox.Ask.TheVariants as ask
use Rattle.message_box.proofs.Sided.{called_paid, has_stopped}
use Rattle.message_box.proofs.reading.stop.Goals as goal

pub returns-clause-stopped : goal.returns-clause-stopped
returns-clause-stopped g c =
    let p = c.args.caller.now.pass in
    has_stopped p.lane _ c.args.stop c.call_paid.result.0 c.call_paid.result.1 _ c.requires.lane
    c.requires.reads
    (called_paid _ p.lane p.seat.me.0 c.call_paid.new.self.pass.seat.me.0
    (ask.Stop c.args.stop) c.call_paid.result.0 c.call_paid.result.1
    c.call_paid.ensures.answer)
