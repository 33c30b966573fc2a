use Rattle.progress_laws.proofs.Delay as delay
use Rattle.progress_laws.proofs.Own as own
use Rattle.progress_laws.proofs.Shared as shared
use Rattle.progress_laws.proofs.laws.lanes_leave.Goals as goal

pub returns : goal.returns
returns c = record { own = own.leave; delayed = delay.leave; shared = shared.leave }
