use Rattle.std.proofs.Common.{◌-◌}
use Rattle.desk_machines.specs.Lanes.{HasMade}
use Rattle.desk_machines.proofs.adding.adds.Given as goal

abbrev pub invariant-loop-made : goal.invariant-loop-made
invariant-loop-made g l = HasMade l.count l.desk l.fn.pass l.pass l.made

abbrev pub decreases-loop-made : goal.decreases-loop-made
decreases-loop-made g l = l.count - l.made
