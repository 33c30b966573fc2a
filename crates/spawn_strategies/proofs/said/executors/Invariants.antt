use Rattle.std.proofs.Common.{◌≡◌, ◌++◌, map, drop}
use Rattle.std.specs.Prelude.{string_bytes, filter_map}
use Rattle.spawn_strategies.specs.SpawnWords.{executor_in}
use Rattle.spawn_strategies.proofs.said.executors.Given as goal

abbrev pub invariant-loop-word : goal.invariant-loop-word
invariant-loop-word l =
    l.executors.items ++ filter_map executor_in (map string_bytes (drop l.word-index l.words))
    ≡ filter_map executor_in (map string_bytes l.words)
