use Rattle.std.proofs.Common.{◌≡◌, map, drop}
use Rattle.std.specs.Prelude.{string_bytes}
use Rattle.tool_words.specs.Options.{number_given}
use Rattle.tool_words.proofs.options.number_given.Given as goal

abbrev pub invariant-loop-word : goal.invariant-loop-word
invariant-loop-word l = number_given l.kind (map string_bytes (drop l.word-index l.words)) ≡ number_given l.kind (map string_bytes l.words)
