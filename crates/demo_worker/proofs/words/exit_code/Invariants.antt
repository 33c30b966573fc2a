use Rattle.std.proofs.Common.{◌≡◌, drop}
use Rattle.std.specs.Prelude.{filter_map}
use Rattle.wire_fields.specs.Message.{last_or}
use Rattle.demo_worker.specs.Words.{exit_code_in, exit_code}
use Rattle.demo_worker.proofs.words.exit_code.Given as goal

-- The words from here on say the same as all of them.
abbrev pub invariant-loop-word : goal.invariant-loop-word
invariant-loop-word l = last_or l.code (filter_map exit_code_in (drop l.word-index l.words))
    ≡ exit_code l.words
