use Rattle.std.proofs.Common.{◌≤◌, [], take}
use Rattle.list_actions.specs.Producers.{producer_of}
use Rattle.outside.specs.Told.{SameFloor}
use Rattle.run_loading.specs.Reads.{Reads}
use Rattle.run_loading.specs.Sources.{held, NewFound}
use Rattle.run_loading.specs.Wanted.{paths_of_actions}
use Rattle.run_loading.proofs.sources.read_sources.Given as goal

abbrev pub invariant-loop-action : goal.invariant-loop-action
invariant-loop-action g l = record {
  course : Reads (g.F.Floor.told l.initial.floor) (g.F.Floor.told l.floor) (NewFound [] (paths_of_actions (producer_of l.producers) (take l.action-index l.actions)) (held l.sources));
  count : (g.F.Floor.told l.initial.floor).faults ≤ (g.F.Floor.told l.floor).faults;
  files : SameFloor (g.F.Floor.told l.initial.floor) (g.F.Floor.told l.floor);
}
