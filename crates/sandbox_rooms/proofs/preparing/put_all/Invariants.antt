use Rattle.std.proofs.Common.{map, take}
use Rattle.sandbox_rooms.specs.Calls.{Whole, MakesRun}
use Rattle.sandbox_rooms.specs.Rooms.{put_ask}
use Rattle.sandbox_rooms.proofs.preparing.put_all.Given as goal

abbrev pub invariant-loop-input : goal.invariant-loop-input
invariant-loop-input g l = MakesRun Whole (map (put_ask l.room) (take l.input-index l.inputs)) (g.B.Berth.told l.initial.berth) (g.B.Berth.told l.berth)
