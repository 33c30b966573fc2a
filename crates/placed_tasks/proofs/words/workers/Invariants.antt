use Rattle.std.proofs.Common.{◌≡◌, ◌++◌, map, drop}
use Rattle.std.specs.Prelude.{string_bytes, filter_map}
use Rattle.shared_tasks.specs.Words.{workers_in}
use Rattle.placed_tasks.proofs.words.workers.Given as goal

abbrev pub invariant-loop-word : goal.invariant-loop-word
invariant-loop-word l =
    l.workers.items ++ filter_map workers_in (map string_bytes (drop l.word-index l.words))
    ≡ filter_map workers_in (map string_bytes l.words)
