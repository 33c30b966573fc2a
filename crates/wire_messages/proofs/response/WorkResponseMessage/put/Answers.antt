use Rattle.std.proofs.Common.{rules}
use Rattle.std.specs.Int.{w32}
use Rattle.std.specs.Prelude.{FitsSigned}
use Rattle.std.proofs.lemmas.Int.{to_z-of_z}
use Rattle.wire_fields.specs.Spelling.{int32_field, bool_field, bytes_field}
use Rattle.wire_messages.specs.Response.{response_fields}
use Rattle.wire_messages.proofs.Pushes.{put_more}
use Rattle.wire_messages.proofs.response.WorkResponseMessage.put.Goals as goal

pub returns-clause-written : goal.returns-clause-written
unfolding response_fields
returns-clause-written c =
    let m = c.args.self.now in
    let out = c.args.out.now.items in
    let exit_fits : FitsSigned w32 m.exit_code = search rules in
    let id_fits : FitsSigned w32 m.request_id = search rules in
    let exit_code = simp to_z-of_z at c.in_ok-push_int32.ensures in
    let output = rw (c.as_bytes.ensures.value, c.as_str.ensures) at c.in_ok-push_bytes.ensures.put in
    let request_id = simp to_z-of_z at c.in_ok-push_int32-2.ensures in
    put_more out _ _ _ (bool_field 4 m.was_cancelled)
    (put_more out _ _ _ (int32_field 3 m.request_id)
    (put_more out _ _ (int32_field 1 m.exit_code) (bytes_field 2 m.output) exit_code output) request_id) c.in_ok-push_bool.ensures
