use Rattle.progress_laws.proofs.Delay as delay
use Rattle.progress_laws.proofs.Own as own
use Rattle.progress_laws.proofs.Shared as shared
use Rattle.progress_laws.proofs.laws.unwanted_are_asked.Goals as goal

pub returns : goal.returns
returns c = record {
  own = own.unwanted_asked;
  delayed = delay.unwanted_asked;
  shared = shared.unwanted_asked;
}
