use Rattle.progress_laws.proofs.counts.AllCalls.{calls_few}
use Rattle.progress_laws.proofs.counts.Disciplines as di
use Rattle.progress_laws.proofs.laws.calls_are_few.Goals as goal

pub returns : goal.returns
returns c = record {
  own = di.own_few;
  delayed = di.delayed_few;
  shared = di.shared_few;
  lawful = calls_few;
}
