use Rattle.call_laws.proofs.Same as sa
use Rattle.call_laws.proofs.laws.reports_change_nothing.Goals as goal

pub returns : goal.returns
returns c = record {
  started = sa.started_same;
  written = sa.written_same;
  fed = sa.fed_same;
  lost = sa.lost_same;
}
