use Rattle.std.proofs.Common.{[], ◌∷◌}
use Rattle.std.proofs.lemmas.Result.{err_from_is_err_and}
use Rattle.sandbox_rooms.specs.Rooms.{folder_asks}
use Rattle.sandbox_rooms.proofs.Runs.{run_cut}
use Rattle.std.proofs.Common.{◌∙◌}
use Rattle.sandbox_rooms.proofs.Folders.{folder_made, no_folder}
use Rattle.sandbox_rooms.proofs.preparing.make_folder.Goals as goal

pub returns-in_ok-path-in-Some : goal.returns-in_ok-path-in-Some
returns-in_ok-path-in-Some g c =
    let told = g.B.Berth.told in
    folder_made c.args.room c.args.output.now c.in-Some.folder.now c.as_str.result.now c.room_folder.result (told c.args.berth.now) (told c.room_folder.new.self) c.in-Some.ensures (c.as_str.ensures ∙ c.in_ok-path-in-Some.ensures) c.room_folder.ensures.log c.room_folder.ensures.count c.room_folder.ensures.number

pub returns-in-None : goal.returns-in-None
returns-in-None g c = no_folder c.args.room c.args.output.now (g.B.Berth.told c.args.berth.now) c.in-None.ensures

pub returns-in_err-path-in-Some : goal.returns-in_err-path-in-Some
returns-in_err-path-in-Some g c =
    let p = err_from_is_err_and c.from_residual.result c.from_residual.ensures.1 in
    rw (p.1) (run_cut (folder_asks c.args.room (c.args.output.now ∷ [])) (g.B.Berth.told c.args.berth.now))
