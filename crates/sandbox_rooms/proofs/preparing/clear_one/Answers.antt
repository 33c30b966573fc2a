use Rattle.std.proofs.Common.{refl}
use Rattle.outside.specs.declared.berth.BerthCall.TheVariants as call
use Rattle.sandbox_rooms.specs.Calls.{Clear}
use Rattle.sandbox_rooms.proofs.Runs.{run_io}
use Rattle.sandbox_rooms.proofs.preparing.clear_one.Goals as goal

pub returns : goal.returns
returns g c =
    let told = g.B.Berth.told in
    let e = c.room_clear.ensures in
    run_io (Clear c.args.part.now) (call.Clear c.args.part.now c.room_clear.result) c.room_clear.result (told c.args.berth.now) (told c.room_clear.new.self) refl refl e.log e.count e.number
