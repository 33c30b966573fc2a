use Rattle.std.proofs.Common.{◌≤◌, take}
use Rattle.outside.specs.Lists.{Adds}
use Rattle.outside.specs.Told.{SamePlace}
use Rattle.output_commit.specs.Commits.{writes_of}
use Rattle.output_commit.proofs.commits.commit.Given as goal

abbrev pub invariant-loop-index : goal.invariant-loop-index
invariant-loop-index g l = record {
  written : Adds (take l.index (writes_of l.outputs l.files)) (g.P.Place.told l.initial.place).log (g.P.Place.told l.place).log;
  count : (g.P.Place.told l.initial.place).faults ≤ (g.P.Place.told l.place).faults;
  same : SamePlace (g.P.Place.told l.initial.place) (g.P.Place.told l.place);
}
