use Rattle.wire_messages.proofs.Measures.{no_number_len, one_number_len}
use Rattle.wire_messages.proofs.measure.number_len.Goals as goal

pub returns-then-value-eq0 : goal.returns-then-value-eq0
returns-then-value-eq0 c = no_number_len c.args.number c.args.value c.if-value-eq0.true

pub returns : goal.returns
returns c = one_number_len c.args.number c.args.value _ _ c.if-value-eq0.false (rw (← c.from.ensures) c.varint_length.ensures.exact) c.varint_length-2.ensures.exact c.varint_length.ensures.short c.varint_length-2.ensures.short
