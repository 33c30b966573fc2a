use Rattle.std.proofs.Common.{◌≡◌, ◌++◌, map, drop}
use Rattle.std.specs.Prelude.{string_bytes}
use Rattle.placed_tasks.specs.Words.{other_words}
use Rattle.placed_tasks.proofs.words.other_words.Given as goal

abbrev pub invariant-loop-word : goal.invariant-loop-word
invariant-loop-word l =
    map string_bytes l.others.items ++ other_words (map string_bytes (drop l.word-index l.words))
    ≡ other_words (map string_bytes l.words)
