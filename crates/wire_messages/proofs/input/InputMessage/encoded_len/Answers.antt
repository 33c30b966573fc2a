use Rattle.wire_fields.specs.Spelling.{bytes_field}
use Rattle.wire_messages.specs.Input.{input_fields}
use Rattle.wire_messages.proofs.Measures.{len_more}
use Rattle.wire_messages.proofs.input.InputMessage.encoded_len.Goals as goal

pub returns : goal.returns
unfolding input_fields
returns c =
    let m = c.args.self.now in
    let path = rw (c.as_bytes.ensures.value, c.as_str.ensures) at c.bytes_len-path.ensures in
    let digest = rw c.as_slice.ensures at c.bytes_len.ensures in
    len_more _ _ _ (bytes_field 1 m.path) (bytes_field 2 m.digest) path digest c.saturating_add.ensures
