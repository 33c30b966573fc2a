use Rattle.std.proofs.Common.{◌≡◌, ◌++◌, drop}
use Rattle.std.specs.List.{flat_map}
use Rattle.worker_key.specs.Keys.{AreShort, counted}
use Rattle.worker_key.proofs.written.push_texts.Given as goal

abbrev pub invariant-loop-text : goal.invariant-loop-text
invariant-loop-text l = record {
  put : l.out.items ++ flat_map counted (drop l.text-index l.texts) ≡ l.initial.out.items ++ flat_map counted (l.texts);
  short : AreShort (drop l.text-index l.texts) → AreShort (l.texts);
}
