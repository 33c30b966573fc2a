use Rattle.lane_laws.proofs.Halting.{ends_tell}
use Rattle.lane_laws.proofs.ends_tell_halts.Goals as goal

pub returns : goal.returns
returns c = ends_tell
