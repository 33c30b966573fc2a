use Rattle.std.proofs.Common.{[], ◌∷◌}
use Rattle.sandbox_rooms.specs.Calls.{Clear, Folder, Stopped, io_end}
use Rattle.sandbox_rooms.proofs.Runs.{run_then, run_wider}
use Rattle.sandbox_rooms.proofs.preparing.renew.Goals as goal

pub returns-in-Done : goal.returns-in-Done
returns-in-Done g c =
    let told = g.B.Berth.told in
    let part = c.args.part.now in
    run_then (io_end c.folder_one.result) (Clear part ∷ []) (Folder part ∷ []) (told c.args.berth.now) (told c.clear_one.new.berth) (told c.folder_one.new.berth) c.in-Done.ensures c.folder_one.ensures

pub returns-in-Failed : goal.returns-in-Failed
returns-in-Failed g c =
    let told = g.B.Berth.told in
    let part = c.args.part.now in
    run_wider Stopped (Clear part ∷ []) (Folder part ∷ []) (told c.args.berth.now) (told c.clear_one.new.berth) tt c.in-Failed.ensures
