use Rattle.std.proofs.Common.{◌≡◌, drop, map, Some}
use Rattle.std.specs.Prelude.{filter_map}
use Rattle.std.specs.Option.{option_copied}
use Rattle.wire_fields.specs.Message.{last_or}
use Rattle.demo_worker.specs.Words.{output_in, output_of}
use Rattle.demo_worker.proofs.words.output_of.Given as goal

-- The words from here on say the same as all of them.
abbrev pub invariant-loop-word : goal.invariant-loop-word
invariant-loop-word l =
    last_or (option_copied l.output) (map Some (filter_map output_in (drop l.word-index l.words)))
    ≡ output_of l.words
