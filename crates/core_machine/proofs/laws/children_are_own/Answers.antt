use Rattle.core_machine.proofs.Own.{child_is_own}
use Rattle.core_machine.proofs.laws.children_are_own.Goals as goal

pub returns : goal.returns
returns c = child_is_own
