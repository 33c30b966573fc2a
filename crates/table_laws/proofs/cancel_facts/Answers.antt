use Rattle.table_laws.proofs.Bridge.{wanted_by_grant}
use Rattle.table_laws.proofs.cancel_facts.Goals as goal

pub returns : goal.returns
returns c = λ p j l legal. wanted_by_grant p j l legal
