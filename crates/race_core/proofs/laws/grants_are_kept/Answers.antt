use Rattle.race_core.proofs.Kept.{grants}
use Rattle.race_core.proofs.laws.grants_are_kept.Goals as goal

pub returns : goal.returns
returns c = λ p rows j lane a t b found s open_yet. grants p rows j lane a t b found s open_yet
