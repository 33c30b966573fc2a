use Rattle.lane_laws.proofs.Tellers.{told, no_takers}
use Rattle.lane_laws.proofs.Pipelines.{not_given}
use Rattle.lane_laws.proofs.lines_not_given_are_silent.Goals as goal

pub returns : goal.returns
returns g c b h l good free =
    not_given h (told (g.C.Rules.discipline b) (g.met.C.Rules.keeps b) h good) 0 l
    (no_takers l h free)
