use Rattle.std.proofs.Common.{◌≡◌, length, take}
use Rattle.wire_fields.specs.Spelling.{spelling, repeated_field, capped}
use Rattle.wire_messages.proofs.measure.texts_len.Given as goal

abbrev pub invariant-loop-text : goal.invariant-loop-text
invariant-loop-text l = l.total ≡ capped (length (spelling (repeated_field l.number (take l.text-index l.texts))))
