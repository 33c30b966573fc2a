use Rattle.std.proofs.Common.{◌≡◌, ◌≤◌, length, take}
use Rattle.spawn_strategies.specs.Placing.{keyed}
use Rattle.spawn_strategies.proofs.placing.keyed.Given as goal

abbrev pub invariant-loop-group : goal.invariant-loop-group
invariant-loop-group l = record {
  kept : l.kept.items ≡ keyed (take l.group-index l.groups);
  few : length l.kept.items ≤ l.group-index;
}
