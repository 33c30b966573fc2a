use Rattle.lane_laws.proofs.Owing.{places_back}
use Rattle.lane_laws.proofs.places_are_back.Goals as goal

pub returns : goal.returns
returns g c b h good left a files away =
    places_back (g.C.Rules.discipline b) (g.met.C.Rules.keeps b) h good left a files away
