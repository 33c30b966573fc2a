use Rattle.std.proofs.Common.{◌≡◌, map, drop}
use Rattle.std.specs.Prelude.{string_bytes}
use Rattle.demo_programs.specs.Demo.{is_word}
use Rattle.demo_programs.proofs.demonstrating.is_word.Given as goal

-- The words from here on say the same as all of them.
abbrev pub invariant-loop-word : goal.invariant-loop-word
invariant-loop-word l = is_word l.wanted (map string_bytes (drop l.word-index l.words))
    ≡ is_word l.wanted (map string_bytes l.words)
