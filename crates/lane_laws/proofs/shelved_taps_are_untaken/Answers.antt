use Rattle.lane_laws.proofs.Numbering.{started_apart}
use Rattle.lane_laws.proofs.Tapping.{tapped}
use Rattle.lane_laws.proofs.Untaken.{untaken}
use Rattle.lane_laws.proofs.shelved_taps_are_untaken.Goals as goal

pub returns : goal.returns
returns g c b h w l good there =
    let q = g.C.Rules.discipline b in
    let law = g.met.C.Rules.keeps b in
    untaken q law q.seats h good (started_apart q law q.seats h good)
    (λ v. tapped q law v h good) w l there
