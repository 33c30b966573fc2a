use Rattle.std.proofs.Common.{◌≡◌, map, drop}
use Rattle.std.specs.Prelude.{string_bytes}
use Rattle.std.specs.List.{list_all}
use Rattle.tool_words.specs.Options.{is_known}
use Rattle.tool_words.proofs.options.is_all_known.Given as goal

abbrev pub invariant-loop-word : goal.invariant-loop-word
invariant-loop-word l = list_all is_known (map string_bytes (drop l.word-index l.words)) ≡ list_all is_known (map string_bytes l.words)
