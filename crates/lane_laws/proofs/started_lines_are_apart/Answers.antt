use Rattle.lane_laws.proofs.Numbering.{started_apart}
use Rattle.lane_laws.proofs.started_lines_are_apart.Goals as goal

pub returns : goal.returns
returns g c b h seats good =
    started_apart (g.C.Rules.discipline b) (g.met.C.Rules.keeps b) seats h good
