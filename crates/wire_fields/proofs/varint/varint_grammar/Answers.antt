use Rattle.wire_fields.proofs.Grammar.{grammar}
use Rattle.wire_fields.proofs.varint.varint_grammar.Goals as goal

pub returns : goal.returns
returns c = grammar
