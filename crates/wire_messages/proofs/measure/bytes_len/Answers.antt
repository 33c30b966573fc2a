use Rattle.std.proofs.Common.{sym}
use Rattle.std.proofs.lemmas.Bool.{eqb-true}
use Rattle.wire_messages.proofs.Measures.{no_bytes_len}
use Rattle.wire_messages.proofs.measure.bytes_len.Goals as goal

pub returns-then-is_empty : goal.returns-then-is_empty
returns-then-is_empty c = no_bytes_len c.args.number c.args.bytes.now (eqb-true _ _ (sym c.if-is_empty.ensures))
