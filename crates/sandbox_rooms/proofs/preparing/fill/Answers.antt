use Rattle.std.proofs.Common.{map}
use Rattle.std.proofs.lemmas.Result.{err_from_is_err_and}
use Rattle.sandbox_rooms.specs.Calls.{Stopped, Cut, run_end}
use Rattle.sandbox_rooms.specs.Rooms.{folder_asks, put_ask}
use Rattle.sandbox_rooms.proofs.Runs.{run_then, run_wider}
use Rattle.sandbox_rooms.proofs.preparing.fill.Goals as goal

pub returns-in_err-make_folders : goal.returns-in_err-make_folders
returns-in_err-make_folders g c =
    let told = g.B.Berth.told in
    let p = err_from_is_err_and c.from_residual.result c.from_residual.ensures.1 in
    rw (p.1) (run_wider Cut (folder_asks c.args.room c.args.outputs.now) (map (put_ask c.args.room) c.args.inputs.now) (told c.args.berth.now) (told c.make_folders.new.berth) tt c.in_err-make_folders.ensures)

pub returns-in-Done : goal.returns-in-Done
returns-in-Done g c =
    let told = g.B.Berth.told in
    let is = c.in-Done.is in
    run_then (run_end c.put_all.result) (folder_asks c.args.room c.args.outputs.now) (map (put_ask c.args.room) c.args.inputs.now) (told c.args.berth.now) (told c.make_folders.new.berth) (told c.put_all.new.berth) (rw is at c.in_ok-make_folders.ensures) c.put_all.ensures

pub returns-in-Failed : goal.returns-in-Failed
returns-in-Failed g c =
    let told = g.B.Berth.told in
    let is = c.in-Failed.is in
    run_wider Stopped (folder_asks c.args.room c.args.outputs.now) (map (put_ask c.args.room) c.args.inputs.now) (told c.args.berth.now) (told c.make_folders.new.berth) tt (rw is at c.in_ok-make_folders.ensures)
