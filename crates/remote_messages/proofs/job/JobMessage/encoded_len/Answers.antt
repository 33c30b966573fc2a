use Rattle.std.proofs.Common.{rules, map}
use Rattle.std.specs.Int.{w32}
use Rattle.std.specs.Prelude.{FitsSigned}
use Rattle.std.proofs.lemmas.Int.{to_z-of_z}
use Rattle.wire_fields.specs.Spelling.{int32_field, bool_field, repeated_field}
use Rattle.wire_messages.proofs.Measures.{len_more}
use Rattle.remote_messages.specs.Job.{job_fields, file_spelling}
use Rattle.remote_messages.specs.Variable.{variable_spelling}
use Rattle.remote_messages.proofs.job.JobMessage.encoded_len.Goals as goal

pub returns : goal.returns
unfolding job_fields
returns c =
    let m = c.args.self.now in
    let id_fits : FitsSigned w32 m.id = search rules in
    let id = simp to_z-of_z at c.int32_len-id.ensures in
    let arguments = rw c.as_slice.ensures at c.texts_len-arguments.ensures in
    let inputs = rw c.as_slice-2.ensures at c.messages_len-inputs.ensures in
    let outputs = rw c.as_slice-3.ensures at c.texts_len-outputs.ensures in
    let env = rw c.as_slice-4.ensures at c.env_len-env.ensures in
    len_more _ _ _ _ (bool_field 6 m.cancel)
    (len_more _ _ _ _ (repeated_field 5 (map variable_spelling m.env))
    (len_more _ _ _ _ (repeated_field 4 m.outputs)
    (len_more _ _ _ _ (repeated_field 3 (map file_spelling m.inputs))
    (len_more _ _ _ (int32_field 1 m.id) (repeated_field 2 m.arguments) id arguments c.saturating_add.ensures) inputs c.saturating_add-2.ensures) outputs c.saturating_add-3.ensures) env c.saturating_add-4.ensures) c.bool_len-cancel.ensures c.saturating_add-5.ensures
