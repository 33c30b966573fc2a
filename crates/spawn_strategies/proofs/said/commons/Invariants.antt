use Rattle.std.proofs.Common.{◌≡◌, ◌++◌, map, drop}
use Rattle.std.specs.Prelude.{string_bytes, filter_map}
use Rattle.spawn_strategies.specs.SpawnWords.{common_in}
use Rattle.spawn_strategies.proofs.said.commons.Given as goal

abbrev pub invariant-loop-word : goal.invariant-loop-word
invariant-loop-word l =
    l.commons.items ++ filter_map common_in (map string_bytes (drop l.word-index l.words))
    ≡ filter_map common_in (map string_bytes l.words)
