use Rattle.std.proofs.Common.{◌-◌}
use Rattle.seat_desk.specs.Passes.{IsSamePass, mine}
use Rattle.desk_machines.specs.Ends.{HasMade}
use Rattle.desk_machines.proofs.exchanging.SlotLane.ask_until.Given as goal

abbrev pub invariant-loop-made : goal.invariant-loop-made
invariant-loop-made g l = IsSamePass l.initial.caller.pass l.caller.pass
    × HasMade l.count (mine l.caller.pass) l.made

abbrev pub decreases-loop-made : goal.decreases-loop-made
decreases-loop-made g l = l.count - l.made
