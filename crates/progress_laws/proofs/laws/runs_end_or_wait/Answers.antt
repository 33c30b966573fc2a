use Rattle.progress_laws.proofs.Delay as delay
use Rattle.progress_laws.proofs.Own as own
use Rattle.progress_laws.proofs.Shared as shared
use Rattle.progress_laws.proofs.laws.runs_end_or_wait.Goals as goal

pub returns : goal.returns
returns c = record {
  own = own.ends_or_waits;
  delayed = delay.ends_or_waits;
  shared = shared.ends_or_waits;
}
