use Rattle.call_laws.proofs.LastLines.{live_is_last, bound_last}
use Rattle.call_laws.proofs.Calls.{bound_seat}
use Rattle.call_laws.proofs.Requested.{bound_group}
use Rattle.call_laws.proofs.laws.lines_here_are_last.Goals as goal

pub returns : goal.returns
returns c = record {
  live = live_is_last;
  bound = bound_last;
  seat = bound_seat;
  group = bound_group;
}
