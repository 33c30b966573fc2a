use Rattle.std.proofs.Common.{◌≡◌, ◌∙◌, ◌<◌, ◌^◌, ◌++◌, ap, subst, All, take, map, length, arith}
use Rattle.std.proofs.lemmas.List.{take_all, map_push}
use Rattle.wire_fields.specs.Spelling.{spelling, repeated_field}
use Rattle.wire_messages.proofs.Pushes.{repeated_more, nothing_repeated, take_item, All-item}
use Rattle.wire_messages.proofs.push.push_messages.Goals as goal

pub loop-message-init : goal.loop-message-init
loop-message-init g c = record { put = nothing_repeated c.args.out.now.items c.args.number; forms = λ k d lt. absurd (omega arith) }

pub loop-message-preserved : goal.loop-message-preserved
loop-message-preserved g c =
    let i = c.loop-message.message-index in
    let m = c.message-item.result in
    let ms = c.args.messages.now in
    let item = take_item ms i m c.loop-message-test.true c.message-item.is in
    record {
      put = repeated_more c.args.out.now.items _ _ c.args.number (map (λ m. spelling (g.M.Message.fields m)) (take i ms)) _ (spelling (g.M.Message.fields m)) (ap (map (λ m. spelling (g.M.Message.fields m))) item ∙ map_push _ (take i ms) m) c.loop-message.invariant.put c.in_ok-push_message.ensures.put;
      forms = All-item (λ m. g.M.Message.has_form m × (length (spelling (g.M.Message.fields m)) < 2 ^ 64)) ms i m c.loop-message-test.true c.message-item.is c.loop-message.invariant.forms c.in_ok-push_message.ensures.form;
    }

pub returns-clause-put : goal.returns-clause-put
returns-clause-put g c =
    subst (λ ms. c.loop-message.out.items ≡ c.args.out.now.items ++ spelling (repeated_field c.args.number (map (λ m. spelling (g.M.Message.fields m)) ms))) (take_all c.loop-message.message-index c.args.messages.now (omega arith)) c.loop-message.invariant.put

pub returns-clause-forms : goal.returns-clause-forms
returns-clause-forms g c = subst (All (λ m. g.M.Message.has_form m × (length (spelling (g.M.Message.fields m)) < 2 ^ 64))) (take_all c.loop-message.message-index c.args.messages.now (omega arith)) c.loop-message.invariant.forms
