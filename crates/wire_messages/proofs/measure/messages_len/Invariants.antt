use Rattle.std.proofs.Common.{◌≡◌, length, map, take}
use Rattle.wire_fields.specs.Spelling.{spelling, repeated_field, capped}
use Rattle.wire_messages.proofs.measure.messages_len.Given as goal

abbrev pub invariant-loop-message : goal.invariant-loop-message
invariant-loop-message g l = l.total ≡ capped (length (spelling (repeated_field l.number (map (λ m. spelling (g.M.Message.fields m)) (take l.message-index l.messages)))))
