use Rattle.lane_laws.proofs.Halting.{by_lanes}
use Rattle.lane_laws.proofs.halts_are_by_lanes.Goals as goal

pub returns : goal.returns
returns c = by_lanes
