use Rattle.std.proofs.Common.{take}
use Rattle.sandbox_rooms.specs.Calls.{Whole, MakesRun}
use Rattle.sandbox_rooms.specs.Rooms.{folder_asks}
use Rattle.sandbox_rooms.proofs.preparing.make_folders.Given as goal

abbrev pub invariant-loop-output : goal.invariant-loop-output
invariant-loop-output g l = MakesRun Whole (folder_asks l.room (take l.output-index l.outputs)) (g.B.Berth.told l.initial.berth) (g.B.Berth.told l.berth)
