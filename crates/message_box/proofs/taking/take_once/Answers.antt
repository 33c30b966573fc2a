use Rattle.message_box.specs.declared.mailbox.Ask.TheVariants as ask
use Rattle.message_box.specs.Sides.{state_at, took_by}
use Rattle.message_box.proofs.Sided.{called, came_so, has_taken, taker_on}
use Rattle.message_box.proofs.taking.take_once.Goals as goal

pub returns-in-Ok-clause-ok : goal.returns-in-Ok-clause-ok
returns-in-Ok-clause-ok g c =
    let p = c.args.caller.now.pass in
    let p' = c.call.new.self.pass in
    came_so (state_at p) (state_at p') (took_by c.in-Ok.reply c.in-Ok.good) c.what_came.result
    c.what_came.ensures
    (has_taken p.lane (state_at p) c.in-Ok.reply c.in-Ok.good (state_at p') c.requires.lane
    c.requires.here
    (called _ p.lane p.seat.me.0 p'.seat.me.0 ask.Take c.in-Ok.reply c.in-Ok.good
    c.in-Ok.ensures.answer))

pub returns-clause-err : goal.returns-clause-err
returns-clause-err g c =
    let p = c.args.caller.now.pass in
    (taker_on p.lane p.seat.me.0.seen c.call.new.self.pass.seat.me.0.seen c.requires.lane
    c.in-Err.ensures.refused.2.0).0
