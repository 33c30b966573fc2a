use Rattle.std.proofs.Common.{◌≡◌, ◌++◌, drop}
use Rattle.std.specs.List.{flat_map}
use Rattle.worker_key.specs.Keys.{AreShort, counted, pairs}
use Rattle.worker_key.proofs.written.push_pairs.Given as goal

abbrev pub invariant-loop-pair : goal.invariant-loop-pair
invariant-loop-pair l = record {
  put : l.out.items ++ flat_map counted (pairs (drop l.pair-index l.named)) ≡ l.initial.out.items ++ flat_map counted (pairs (l.named));
  short : AreShort (pairs (drop l.pair-index l.named)) → AreShort (pairs (l.named));
}
