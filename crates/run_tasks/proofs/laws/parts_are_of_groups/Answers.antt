use Rattle.run_tasks.proofs.Spoken.{parts_law}
use Rattle.run_tasks.proofs.laws.parts_are_of_groups.Goals as goal

pub returns : goal.returns
returns c = parts_law
