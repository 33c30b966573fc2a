use Rattle.discipline_laws.proofs.Going.{duty_is}
use Rattle.discipline_laws.proofs.laws.duties_are_newest_works.Goals as goal

pub returns : goal.returns
returns c = duty_is
