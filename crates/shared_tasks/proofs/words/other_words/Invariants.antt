use Rattle.std.proofs.Common.{◌≡◌, ◌++◌, map, drop}
use Rattle.std.specs.Prelude.{string_bytes}
use Rattle.shared_tasks.specs.Words.{others}
use Rattle.shared_tasks.proofs.words.other_words.Given as goal

abbrev pub invariant-loop-word : goal.invariant-loop-word
invariant-loop-word l =
    map string_bytes l.others.items ++ others (map string_bytes (drop l.word-index l.words))
    ≡ others (map string_bytes l.words)
