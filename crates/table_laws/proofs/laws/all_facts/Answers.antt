use Rattle.table_laws.proofs.AllFacts.{all_facts}
use Rattle.table_laws.proofs.laws.all_facts.Goals as goal

pub returns : goal.returns
returns c = all_facts
