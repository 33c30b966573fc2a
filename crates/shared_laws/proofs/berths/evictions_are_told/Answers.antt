use Rattle.shared_laws.proofs.Evictions.{evicted_is_told}
use Rattle.shared_laws.proofs.berths.evictions_are_told.Goals as goal

pub returns : goal.returns
returns c = λ q s j ws w l pool st legal none known here.
    evicted_is_told q s j ws w l pool st known here
