use Rattle.std.proofs.Common.{◌≡◌, ◌≤◌, take, count_by}
use Rattle.lane_runs.specs.Layout.{orders_line}
use Rattle.lane_runs.proofs.history.lines_ordered.Given as goal

abbrev pub invariant-loop-entry : goal.invariant-loop-entry
invariant-loop-entry l = record {
  counted : l.count ≡ count_by orders_line (take l.entry-index l.fn.entries);
  few : l.count ≤ l.entry-index;
}
