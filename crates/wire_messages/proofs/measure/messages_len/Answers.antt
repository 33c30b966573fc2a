use Rattle.std.proofs.Common.{◌≡◌, ◌∙◌, length, map, take, ap, subst, arith}
use Rattle.std.proofs.lemmas.List.{take_all, map_push}
use Rattle.wire_fields.specs.Spelling.{spelling, repeated_field, capped}
use Rattle.wire_messages.proofs.Measures.{no_repeated_len, repeated_len}
use Rattle.wire_messages.proofs.Pushes.{take_item}
use Rattle.wire_messages.proofs.measure.messages_len.Goals as goal

pub loop-message-init : goal.loop-message-init
loop-message-init g c = no_repeated_len c.args.number

pub loop-message-preserved : goal.loop-message-preserved
loop-message-preserved g c =
    let i = c.loop-message.message-index in
    let m = c.message-item.result in
    let ms = c.args.messages.now in
    let item = take_item ms i m c.loop-message-test.true c.message-item.is in
    repeated_len _ _ _ c.args.number (map (λ m. spelling (g.M.Message.fields m)) (take i ms)) _ (spelling (g.M.Message.fields m)) (ap (map (λ m. spelling (g.M.Message.fields m))) item ∙ map_push _ (take i ms) m)
    c.loop-message.invariant (c.span_len.ensures (spelling (g.M.Message.fields m)) c.encoded_len.ensures) c.saturating_add-total.ensures

pub returns : goal.returns
returns g c =
    subst (λ ms. c.loop-message.total ≡ capped (length (spelling (repeated_field c.args.number (map (λ m. spelling (g.M.Message.fields m)) ms))))) (take_all c.loop-message.message-index c.args.messages.now (omega arith)) c.loop-message.invariant
