use Rattle.std.proofs.Common.{rules, map}
use Rattle.std.specs.Int.{w32}
use Rattle.std.specs.Prelude.{FitsSigned}
use Rattle.std.proofs.lemmas.Int.{to_z-of_z}
use Rattle.wire_fields.specs.Spelling.{int32_field, bool_field, bytes_field, repeated_field}
use Rattle.wire_messages.specs.Request.{request_fields, input_spelling}
use Rattle.wire_messages.proofs.Measures.{len_more}
use Rattle.wire_messages.proofs.request.WorkRequestMessage.encoded_len.Goals as goal

pub returns : goal.returns
unfolding request_fields
returns c =
    let m = c.args.self.now in
    let id_fits : FitsSigned w32 m.request_id = search rules in
    let verbosity_fits : FitsSigned w32 m.verbosity = search rules in
    let arguments = rw c.as_slice.ensures at c.texts_len-arguments.ensures in
    let inputs = rw c.as_slice-2.ensures at c.messages_len-inputs.ensures in
    let request_id = simp to_z-of_z at c.int32_len-request_id.ensures in
    let verbosity = simp to_z-of_z at c.int32_len-verbosity.ensures in
    let sandbox_dir = rw (c.as_bytes.ensures.value, c.as_str.ensures) at c.bytes_len-sandbox_dir.ensures in
    len_more _ _ _ _ (bytes_field 6 m.sandbox_dir)
    (len_more _ _ _ _ (int32_field 5 m.verbosity)
    (len_more _ _ _ _ (bool_field 4 m.cancel)
    (len_more _ _ _ _ (int32_field 3 m.request_id)
    (len_more _ _ _ (repeated_field 1 m.arguments) (repeated_field 2 (map input_spelling m.inputs)) arguments inputs c.saturating_add.ensures) request_id c.saturating_add-2.ensures)
    c.bool_len-cancel.ensures c.saturating_add-3.ensures) verbosity c.saturating_add-4.ensures) sandbox_dir c.saturating_add-5.ensures
