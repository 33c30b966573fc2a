use Rattle.std.proofs.Common.{◌∙◌, rules}
use Rattle.std.specs.Int.{w32}
use Rattle.std.specs.Prelude.{FitsSigned}
use Rattle.std.proofs.lemmas.Int.{to_z-of_z}
use Rattle.std.proofs.lemmas.Result.{err_from_is_err_and}
use Rattle.sandbox_rooms.proofs.Leaving.{leaves, stays_none}
use Rattle.sandbox_rooms.proofs.gathering.gather.Goals as goal

pub returns-in_err-part-in-Part-clause-calls : goal.returns-in_err-part-in-Part-clause-calls
returns-in_err-part-in-Part-clause-calls g c =
    let p = err_from_is_err_and c.from_residual.result c.from_residual.ensures.1 in
    rw (p.1) (stays_none c.args.room c.args.outputs.now p.0 (g.B.Berth.told c.args.berth.now))

pub returns-in-Files-clause-calls : goal.returns-in-Files-clause-calls
returns-in-Files-clause-calls g c =
    let told = g.B.Berth.told in
    let fits : FitsSigned w32 c.in-Part.number = search rules in
    let part = simp to_z-of_z at c.in_ok-part-in-Part.ensures.ok in
    let is = c.in-Files.is in
    leaves c.args.room c.in-Part.number c.args.outputs.now c.as_str.result.now c.in-Files.files c.room_clear.result (told c.args.berth.now) (told c.look-in-Part.new.berth) (told c.room_clear.new.self) c.in-Part.is (c.as_str.ensures.value ∙ part) (rw is at c.in_ok-files-in-Part.ensures.looks) c.room_clear.ensures.count c.room_clear.ensures.number c.room_clear.ensures.log
