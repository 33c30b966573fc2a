use Rattle.call_laws.proofs.Calls.{grants_open}
use Rattle.call_laws.proofs.laws.claims_find_open_actions.Goals as goal

pub returns : goal.returns
returns c = grants_open
