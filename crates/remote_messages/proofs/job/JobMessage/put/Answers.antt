use Rattle.std.proofs.Common.{rules, map}
use Rattle.std.specs.Int.{w32}
use Rattle.std.specs.Prelude.{FitsSigned}
use Rattle.std.proofs.lemmas.Int.{to_z-of_z}
use Rattle.wire_fields.specs.Spelling.{int32_field, bool_field, repeated_field}
use Rattle.wire_messages.proofs.Pushes.{put_more}
use Rattle.remote_messages.specs.Job.{job_fields, file_spelling}
use Rattle.remote_messages.specs.Variable.{variable_spelling}
use Rattle.remote_messages.proofs.job.JobMessage.put.Goals as goal

pub returns-clause-written : goal.returns-clause-written
unfolding job_fields
returns-clause-written c =
    let m = c.args.self.now in
    let out = c.args.out.now.items in
    let id_fits : FitsSigned w32 m.id = search rules in
    let id = simp to_z-of_z at c.in_ok-push_int32.ensures in
    let arguments = rw c.as_slice.ensures at c.in_ok-push_texts.ensures.put in
    let inputs = rw c.as_slice-2.ensures at c.in_ok-push_messages.ensures.put in
    let outputs = rw c.as_slice-3.ensures at c.in_ok-push_texts-2.ensures.put in
    let env = rw c.as_slice-4.ensures at c.in_ok-push_env.ensures.put in
    put_more out _ _ _ (bool_field 6 m.cancel)
    (put_more out _ _ _ (repeated_field 5 (map variable_spelling m.env))
    (put_more out _ _ _ (repeated_field 4 m.outputs)
    (put_more out _ _ _ (repeated_field 3 (map file_spelling m.inputs))
    (put_more out _ _ (int32_field 1 m.id) (repeated_field 2 m.arguments) id arguments) inputs) outputs) env) c.in_ok-push_bool.ensures

pub returns-clause-form : goal.returns-clause-form
returns-clause-form c =
    let m = c.args.self.now in
    let id_fits : FitsSigned w32 m.id = search rules in
    let arguments = rw c.as_slice.ensures at c.in_ok-push_texts.ensures.texts in
    let inputs = rw c.as_slice-2.ensures at c.in_ok-push_messages.ensures.forms in
    let outputs = rw c.as_slice-3.ensures at c.in_ok-push_texts-2.ensures.texts in
    let env = rw c.as_slice-4.ensures at c.in_ok-push_env.ensures.forms in
    record { id = id_fits; arguments = arguments; inputs = inputs; outputs = outputs; env = env }
