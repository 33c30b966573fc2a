use Rattle.run_tasks.proofs.AtBerths.{speeches_law}
use Rattle.run_tasks.proofs.laws.speeches_are_of_berths.Goals as goal

pub returns : goal.returns
returns c = speeches_law
