use Rattle.std.proofs.Common.{◌≡◌, ◌++◌, sym, subst, append_assoc, refl}
use Rattle.std.specs.Global.{Vec}
use Rattle.std.specs.Prelude.{Result}
use Rattle.plain_values.specs.declared.no_memory.NoMemory.{NoMemory}
use Rattle.message_box.specs.declared.mailbox.Ask.TheVariants as ask
use Rattle.message_box.specs.declared.reading.Offered.{Offered}
use Rattle.message_box.specs.Sides.{state_at}
use Rattle.message_box.proofs.Sided.{called, has_put, PutSo, reader_on}
use Rattle.message_box.proofs.reading.put.Goals as goal

pub returns-in-Ok-clause-ok : goal.returns-in-Ok-clause-ok
returns-in-Ok-clause-ok g c =
    let p = c.args.caller.now.pass in
    let p' = c.call.new.self.pass in
    (subst (λ (told : Result Offered NoMemory).
    PutSo c.args.messages.items told (state_at p) (state_at p')) (sym c.told.ensures)
    (has_put p.lane (state_at p) (ask.Put c.of-about.result) c.args.messages c.in-Ok.reply
    c.in-Ok.field-0-1
    (state_at p') c.requires.lane c.requires.reads
    (λ t. subst (λ (batch : Vec _). (t.taken ++ (t.waiting ++ c.of-about.result.value.items))
    ≡ (t.taken ++ t.waiting) ++ batch.items) c.of-about.ensures
    (sym (append_assoc t.taken t.waiting c.of-about.result.value.items)))
    (λ t. refl) (λ t. refl)
    (called _ p.lane p.seat.me.0 p'.seat.me.0 (ask.Put c.of-about.result) c.in-Ok.reply
    c.in-Ok.field-0-1
    c.in-Ok.ensures.answer))).0

pub returns-in-Ok-clause-err : goal.returns-in-Ok-clause-err
returns-in-Ok-clause-err g c =
    let p = c.args.caller.now.pass in
    let p' = c.call.new.self.pass in
    (subst (λ (told : Result Offered NoMemory).
    PutSo c.args.messages.items told (state_at p) (state_at p')) (sym c.told.ensures)
    (has_put p.lane (state_at p) (ask.Put c.of-about.result) c.args.messages c.in-Ok.reply
    c.in-Ok.field-0-1
    (state_at p') c.requires.lane c.requires.reads
    (λ t. subst (λ (batch : Vec _). (t.taken ++ (t.waiting ++ c.of-about.result.value.items))
    ≡ (t.taken ++ t.waiting) ++ batch.items) c.of-about.ensures
    (sym (append_assoc t.taken t.waiting c.of-about.result.value.items)))
    (λ t. refl) (λ t. refl)
    (called _ p.lane p.seat.me.0 p'.seat.me.0 (ask.Put c.of-about.result) c.in-Ok.reply
    c.in-Ok.field-0-1
    c.in-Ok.ensures.answer))).1

pub returns-clause-err : goal.returns-clause-err
returns-clause-err g c =
    let p = c.args.caller.now.pass in
    reader_on p.lane p.seat.me.0.seen c.call.new.self.pass.seat.me.0.seen c.requires.lane
    c.in-Err.ensures.refused.2.0
