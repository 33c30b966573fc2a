use Rattle.lane_laws.proofs.Tellers.{told}
use Rattle.lane_laws.proofs.Pipelines.{says_what_taps_tell}
use Rattle.lane_laws.proofs.history_says_what_taps_tell.Goals as goal

pub returns : goal.returns
returns g c b h s lane halted taps good ends =
    says_what_taps_tell h (told (g.C.Rules.discipline b) (g.met.C.Rules.keeps b) h good) lane s halted
    taps ends
