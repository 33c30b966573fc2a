use Rattle.std.proofs.Common.{rules}
use Rattle.std.specs.Int.{w32}
use Rattle.std.specs.Prelude.{FitsSigned}
use Rattle.std.proofs.lemmas.Int.{to_z-of_z}
use Rattle.wire_fields.specs.Spelling.{int32_field, bool_field, bytes_field}
use Rattle.wire_messages.specs.Response.{response_fields}
use Rattle.wire_messages.proofs.Measures.{len_more}
use Rattle.wire_messages.proofs.response.WorkResponseMessage.encoded_len.Goals as goal

pub returns : goal.returns
unfolding response_fields
returns c =
    let m = c.args.self.now in
    let exit_fits : FitsSigned w32 m.exit_code = search rules in
    let id_fits : FitsSigned w32 m.request_id = search rules in
    let exit_code = simp to_z-of_z at c.int32_len-exit_code.ensures in
    let output = rw (c.as_bytes.ensures.value, c.as_str.ensures) at c.bytes_len-output.ensures in
    let request_id = simp to_z-of_z at c.int32_len-request_id.ensures in
    len_more _ _ _ _ (bool_field 4 m.was_cancelled)
    (len_more _ _ _ _ (int32_field 3 m.request_id)
    (len_more _ _ _ (int32_field 1 m.exit_code) (bytes_field 2 m.output) exit_code output c.saturating_add.ensures) request_id c.saturating_add-2.ensures)
    c.bool_len-was_cancelled.ensures c.saturating_add-3.ensures
