use Rattle.std.proofs.Common.{◌≡◌, ◌++◌, drop}
use Rattle.std.specs.Prelude.{filter_map}
use Rattle.spawn_strategies.specs.SpawnWords.{name_named}
use Rattle.spawn_strategies.proofs.listing.names_in.Given as goal

abbrev pub invariant-loop-piece : goal.invariant-loop-piece
invariant-loop-piece l =
    l.names.items ++ filter_map name_named (drop l.piece-index l.pieces)
    ≡ filter_map name_named l.pieces
