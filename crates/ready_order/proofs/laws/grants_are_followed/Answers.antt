use Rattle.ready_order.proofs.Followed.{granted_files, granted_exit}
use Rattle.ready_order.proofs.laws.grants_are_followed.Goals as goal

pub returns-clause-files : goal.returns-clause-files
returns-clause-files c = λ p states j lane a t b contents s h. granted_files p j lane a t b contents h states s

pub returns-clause-exit : goal.returns-clause-exit
returns-clause-exit c = λ p states j lane a t b code s h. granted_exit p j lane a t b code h states s
