use Rattle.std.proofs.Common.{◌≡◌, ◌++◌, map, drop}
use Rattle.std.specs.Prelude.{string_bytes, filter_map}
use Rattle.spawn_strategies.specs.SpawnWords.{rule_in}
use Rattle.spawn_strategies.proofs.said.rules.Given as goal

abbrev pub invariant-loop-word : goal.invariant-loop-word
invariant-loop-word l =
    l.rules.items ++ filter_map rule_in (map string_bytes (drop l.word-index l.words))
    ≡ filter_map rule_in (map string_bytes l.words)
