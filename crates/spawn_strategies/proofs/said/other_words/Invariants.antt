use Rattle.std.proofs.Common.{◌≡◌, ◌++◌, map, drop}
use Rattle.std.specs.Prelude.{string_bytes}
use Rattle.spawn_strategies.specs.SpawnOptions.{other_words}
use Rattle.spawn_strategies.proofs.said.other_words.Given as goal

abbrev pub invariant-loop-word : goal.invariant-loop-word
invariant-loop-word l =
    map string_bytes l.others.items ++ other_words (map string_bytes (drop l.word-index l.words))
    ≡ other_words (map string_bytes l.words)
