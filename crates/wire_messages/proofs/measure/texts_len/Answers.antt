use Rattle.std.proofs.Common.{◌≡◌, length, take, subst, arith}
use Rattle.std.proofs.lemmas.List.{take_all}
use Rattle.wire_fields.specs.Spelling.{spelling, repeated_field, capped}
use Rattle.wire_messages.proofs.Measures.{no_repeated_len, repeated_len}
use Rattle.wire_messages.proofs.Pushes.{take_item}
use Rattle.wire_messages.proofs.measure.texts_len.Goals as goal

pub loop-text-init : goal.loop-text-init
loop-text-init c = no_repeated_len c.args.number

pub loop-text-preserved : goal.loop-text-preserved
loop-text-preserved c =
    let i = c.loop-text.text-index in
    let text = c.text-item.result in
    repeated_len _ _ _ c.args.number (take i c.args.texts.now) _ text (take_item c.args.texts.now i text c.loop-text-test.true c.text-item.is) c.loop-text.invariant (rw (← c.as_str.ensures, ← c.as_bytes.ensures.value) c.one_len.ensures) c.saturating_add-total.ensures

pub returns : goal.returns
returns c = subst (λ ss. c.loop-text.total ≡ capped (length (spelling (repeated_field c.args.number ss)))) (take_all c.loop-text.text-index c.args.texts.now (omega arith)) c.loop-text.invariant
