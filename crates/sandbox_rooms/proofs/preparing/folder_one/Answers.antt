use Rattle.std.proofs.Common.{refl}
use Rattle.outside.specs.declared.berth.BerthCall.TheVariants as call
use Rattle.sandbox_rooms.specs.Calls.{Folder}
use Rattle.sandbox_rooms.proofs.Runs.{run_io}
use Rattle.sandbox_rooms.proofs.preparing.folder_one.Goals as goal

pub returns : goal.returns
returns g c =
    let told = g.B.Berth.told in
    let e = c.room_folder.ensures in
    run_io (Folder c.args.path.now) (call.Folder c.args.path.now c.room_folder.result) c.room_folder.result (told c.args.berth.now) (told c.room_folder.new.self) refl refl e.log e.count e.number
