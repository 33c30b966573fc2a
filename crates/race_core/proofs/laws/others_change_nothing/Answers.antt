use Rattle.race_core.proofs.Kept.{others}
use Rattle.race_core.proofs.laws.others_change_nothing.Goals as goal

pub returns : goal.returns
returns c = λ p rows j k s same. others p rows j k s same
