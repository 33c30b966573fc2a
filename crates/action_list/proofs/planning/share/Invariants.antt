use Rattle.std.proofs.Common.{◌≡◌, ◌≤◌}
use Rattle.action_list.specs.Plans.{share}
use Rattle.action_list.proofs.planning.share.Given as goal

abbrev pub invariant-loop-each : goal.invariant-loop-each
invariant-loop-each l = record {
  bounded : l.each ≤ l.instances;
  same : share l.counts l.instances ≡ share l.counts l.each;
}

abbrev pub decreases-loop-each : goal.decreases-loop-each
decreases-loop-each l = l.each
