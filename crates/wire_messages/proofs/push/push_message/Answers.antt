use Rattle.std.proofs.Common.{◌<◌, ◌^◌, length, arith}
use Rattle.wire_fields.specs.Spelling.{spelling}
use Rattle.wire_messages.proofs.Pushes.{message_put}
use Rattle.wire_messages.proofs.push.push_message.Goals as goal

pub returns-clause-put : goal.returns-clause-put
returns-clause-put g c =
    let new = c.put.new.out in
    let fits : length new.items < 2 ^ 63 = omega (arith, new.ok.0, new.ok.1, new.small) in
    (message_put c.args.out.now.items _ _ new.items c.args.number (spelling (g.M.Message.fields c.args.message.now)) _ (rw (← c.from.ensures) c.in_ok-push_varint.ensures.ok) c.encoded_len.ensures c.in_ok-push_varint-2.ensures.ok c.in_ok-put.ensures.written fits).0

pub returns-clause-form : goal.returns-clause-form
returns-clause-form g c =
    let new = c.put.new.out in
    let fits : length new.items < 2 ^ 63 = omega (arith, new.ok.0, new.ok.1, new.small) in
    (c.in_ok-put.ensures.form, (message_put c.args.out.now.items _ _ new.items c.args.number (spelling (g.M.Message.fields c.args.message.now)) _ (rw (← c.from.ensures) c.in_ok-push_varint.ensures.ok) c.encoded_len.ensures c.in_ok-push_varint-2.ensures.ok c.in_ok-put.ensures.written fits).1)
