use Rattle.std.proofs.Common.{◌≡◌, take}
use Rattle.std.specs.Prelude.{sum_by}
use Rattle.spawn_core.proofs.lanes.all_berths.Given as goal

abbrev pub invariant-loop-group : goal.invariant-loop-group
invariant-loop-group l = l.berths ≡ sum_by (λ g. g.berths) (take l.group-index l.groups)
