use Rattle.std.proofs.lemmas.Result.{err_from_is_err_and}
use Rattle.sandbox_rooms.specs.Rooms.{clear_asks}
use Rattle.sandbox_rooms.proofs.Runs.{run_cut}
use Rattle.std.proofs.Common.{◌∙◌, rules}
use Rattle.std.specs.Int.{w32}
use Rattle.std.specs.Prelude.{FitsSigned}
use Rattle.std.proofs.lemmas.Int.{to_z-of_z}
use Rattle.sandbox_rooms.specs.Calls.{io_end}
use Rattle.sandbox_rooms.proofs.Folders.{part_renewed}
use Rattle.sandbox_rooms.proofs.preparing.clear.Goals as goal

pub returns-in_ok-part-in-Part : goal.returns-in_ok-part-in-Part
returns-in_ok-part-in-Part g c =
    let told = g.B.Berth.told in
    let fits : FitsSigned w32 c.in-Part.number = search rules in
    let part = simp to_z-of_z at c.in_ok-part-in-Part.ensures.ok in
    part_renewed c.args.room c.in-Part.number c.args.outputs.now c.as_str.result.now (io_end c.renew.result) (told c.args.berth.now) (told c.renew.new.berth) c.in-Part.is (c.as_str.ensures.value ∙ part) c.renew.ensures

pub returns-in_err-part-in-Part : goal.returns-in_err-part-in-Part
returns-in_err-part-in-Part g c =
    let p = err_from_is_err_and c.from_residual.result c.from_residual.ensures.1 in
    rw (p.1) (run_cut (clear_asks c.args.room c.args.outputs.now) (g.B.Berth.told c.args.berth.now))
