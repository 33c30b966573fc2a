use Rattle.discipline_laws.proofs.Inputs as inputs
use Rattle.discipline_laws.proofs.laws.inputs_are_there.Goals as goal

pub returns : goal.returns
returns c = inputs.inputs_are_there
