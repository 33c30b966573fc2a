use Rattle.std.proofs.Common.{◌≡◌, ◌++◌, drop}
use Rattle.std.specs.List.{filter_map}
use Rattle.list_actions.specs.Producers.{producer_of}
use Rattle.list_actions.proofs.producers.Producers.makers_of.Given as goal

abbrev pub invariant-loop-path : goal.invariant-loop-path
invariant-loop-path l = l.makers.items ++ filter_map (producer_of l.self) (drop l.path-index l.paths) ≡ filter_map (producer_of l.self) l.paths
