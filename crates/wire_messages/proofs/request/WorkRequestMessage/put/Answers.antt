use Rattle.std.proofs.Common.{rules, map}
use Rattle.std.specs.Int.{w32}
use Rattle.std.specs.Prelude.{FitsSigned, IsUtf8}
use Rattle.std.proofs.lemmas.Int.{to_z-of_z}
use Rattle.wire_fields.specs.Spelling.{int32_field, bool_field, bytes_field, repeated_field}
use Rattle.wire_messages.specs.Request.{request_fields, input_spelling}
use Rattle.wire_messages.proofs.Pushes.{put_more}
use Rattle.wire_messages.proofs.request.WorkRequestMessage.put.Goals as goal

pub returns-clause-written : goal.returns-clause-written
unfolding request_fields
returns-clause-written c =
    let m = c.args.self.now in
    let out = c.args.out.now.items in
    let id_fits : FitsSigned w32 m.request_id = search rules in
    let verbosity_fits : FitsSigned w32 m.verbosity = search rules in
    let arguments = rw c.as_slice.ensures at c.in_ok-push_texts.ensures.put in
    let inputs = rw c.as_slice-2.ensures at c.in_ok-push_messages.ensures.put in
    let request_id = simp to_z-of_z at c.in_ok-push_int32.ensures in
    let verbosity = simp to_z-of_z at c.in_ok-push_int32-2.ensures in
    let sandbox_dir = rw (c.as_bytes.ensures.value, c.as_str.ensures) at c.in_ok-push_bytes.ensures.put in
    put_more out _ _ _ (bytes_field 6 m.sandbox_dir)
    (put_more out _ _ _ (int32_field 5 m.verbosity)
    (put_more out _ _ _ (bool_field 4 m.cancel)
    (put_more out _ _ _ (int32_field 3 m.request_id)
    (put_more out _ _ (repeated_field 1 m.arguments) (repeated_field 2 (map input_spelling m.inputs)) arguments inputs) request_id) c.in_ok-push_bool.ensures) verbosity) sandbox_dir

pub returns-clause-form : goal.returns-clause-form
returns-clause-form c =
    let m = c.args.self.now in
    let id_fits : FitsSigned w32 m.request_id = search rules in
    let verbosity_fits : FitsSigned w32 m.verbosity = search rules in
    let arguments = rw c.as_slice.ensures at c.in_ok-push_texts.ensures.texts in
    let inputs = rw c.as_slice-2.ensures at c.in_ok-push_messages.ensures.forms in
    let utf8 : IsUtf8 m.sandbox_dir = rw (← c.as_str.ensures) c.as_str.utf8 in
    let fits = rw (c.as_bytes.ensures.value, c.as_str.ensures) at c.in_ok-push_bytes.ensures.fits in
    record { arguments = arguments; inputs = inputs; request_id = id_fits; verbosity = verbosity_fits; sandbox_dir = (utf8, fits) }
