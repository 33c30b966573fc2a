use Rattle.run_tasks.proofs.AtBerths.{commands_law}
use Rattle.run_tasks.proofs.laws.commands_are_of_groups.Goals as goal

pub returns : goal.returns
returns c = commands_law
