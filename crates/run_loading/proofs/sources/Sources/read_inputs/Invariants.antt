use Rattle.std.proofs.Common.{◌≤◌, ◌∷◌, [], take, filter, flat_map}
use Rattle.outside.specs.Told.{SameFloor}
use Rattle.run_loading.specs.Reads.{Reads}
use Rattle.list_actions.specs.Producers.{producer_of}
use Rattle.run_loading.specs.Wanted.{is_source}
use Rattle.run_loading.specs.Sources.{held, NewFound}
use Rattle.run_loading.proofs.sources.Sources.read_inputs.Given as goal

abbrev pub invariant-loop-path : goal.invariant-loop-path
invariant-loop-path g l = record {
  course : Reads (g.F.Floor.told l.initial.floor) (g.F.Floor.told l.floor) (NewFound (held l.initial.self) (flat_map (λ p. filter (is_source (producer_of l.producers)) (p ∷ [])) (take l.path-index l.paths)) (held l.self));
  count : (g.F.Floor.told l.initial.floor).faults ≤ (g.F.Floor.told l.floor).faults;
  files : SameFloor (g.F.Floor.told l.initial.floor) (g.F.Floor.told l.floor);
}
