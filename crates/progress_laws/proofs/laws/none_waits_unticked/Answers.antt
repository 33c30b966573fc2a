use Rattle.progress_laws.proofs.Ticks.{none_waits_unticked}
use Rattle.progress_laws.proofs.laws.none_waits_unticked.Goals as goal

pub returns : goal.returns
returns c = none_waits_unticked
