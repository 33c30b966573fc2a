use Rattle.lane_laws.proofs.Tapping.{tapped}
use Rattle.lane_laws.proofs.started_lines_have_taps.Goals as goal

pub returns : goal.returns
returns g c b h w good = tapped (g.C.Rules.discipline b) (g.met.C.Rules.keeps b) w h good
