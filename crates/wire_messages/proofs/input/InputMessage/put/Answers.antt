use Rattle.wire_fields.specs.Spelling.{bytes_field}
use Rattle.wire_messages.specs.Input.{input_fields}
use Rattle.wire_messages.proofs.Pushes.{put_more}
use Rattle.wire_messages.proofs.input.InputMessage.put.Goals as goal

pub returns-clause-written : goal.returns-clause-written
unfolding input_fields
returns-clause-written c =
    let m = c.args.self.now in
    let path = rw (c.as_bytes.ensures.value, c.as_str.ensures) at c.in_ok-push_bytes.ensures.put in
    let digest = rw c.as_slice.ensures at c.in_ok-push_bytes-2.ensures.put in
    put_more c.args.out.now.items _ _ (bytes_field 1 m.path) (bytes_field 2 m.digest) path digest
