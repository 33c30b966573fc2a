use Rattle.std.proofs.Common.{◌≡◌, map, drop}
use Rattle.std.specs.Prelude.{IfSome, string_bytes, filter_map}
use Rattle.list_lemmas.specs.Options.{and_more}
use Rattle.shared_tasks.specs.Words.{IsWithin, only, workers_in}
use Rattle.shared_tasks.proofs.words.only_number.Given as goal

abbrev pub invariant-loop-word : goal.invariant-loop-word
invariant-loop-word l = IfSome l.found (IsWithin 1 24)
    × (only (and_more l.found (filter_map workers_in (map string_bytes (drop l.word-index l.words))))
    ≡ only (filter_map workers_in (map string_bytes l.words)))
