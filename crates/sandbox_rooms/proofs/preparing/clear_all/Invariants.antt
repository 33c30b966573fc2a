use Rattle.std.proofs.Common.{map, take}
use Rattle.sandbox_rooms.specs.Calls.{Clear, Whole, MakesRun}
use Rattle.sandbox_rooms.proofs.preparing.clear_all.Given as goal

abbrev pub invariant-loop-output : goal.invariant-loop-output
invariant-loop-output g l = MakesRun Whole (map Clear (take l.output-index l.outputs)) (g.B.Berth.told l.initial.berth) (g.B.Berth.told l.berth)
