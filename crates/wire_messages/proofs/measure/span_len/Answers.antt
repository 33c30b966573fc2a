use Rattle.wire_messages.proofs.Measures.{one_span_len}
use Rattle.wire_messages.proofs.measure.span_len.Goals as goal

pub returns : goal.returns
returns c = λ s is. rw c.saturating_add.ensures (one_span_len c.args.number s _ _ c.args.count (rw (← c.from.ensures) c.varint_length.ensures.exact) c.varint_length-2.ensures.exact is)
