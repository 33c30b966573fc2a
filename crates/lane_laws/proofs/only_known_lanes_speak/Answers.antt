use Rattle.lane_laws.proofs.Leaving.{all_known}
use Rattle.lane_laws.proofs.only_known_lanes_speak.Goals as goal

pub returns : goal.returns
returns g c b h good = all_known (g.C.Rules.discipline b) (g.met.C.Rules.keeps b) h good
