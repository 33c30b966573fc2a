use Rattle.std.proofs.Common.{◌≡◌, ◌++◌, map, drop}
use Rattle.std.specs.Prelude.{string_bytes, filter_map}
use Rattle.tool_words.specs.declared.word.Kind.TheVariants as kind
use Rattle.tool_words.specs.Words.{text_in}
use Rattle.tool_words.proofs.options.extra_flags.Given as goal

abbrev pub invariant-loop-word : goal.invariant-loop-word
invariant-loop-word l = l.flags.items ++ filter_map (text_in kind.ExtraFlag) (map string_bytes (drop l.word-index l.words)) ≡ filter_map (text_in kind.ExtraFlag) (map string_bytes l.words)
