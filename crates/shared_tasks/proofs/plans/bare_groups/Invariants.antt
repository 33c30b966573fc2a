use Rattle.std.proofs.Common.{◌≡◌, ◌++◌, map, drop}
use Rattle.shared_tasks.specs.Tasks.{without_berths}
use Rattle.shared_tasks.proofs.plans.bare_groups.Given as goal

abbrev pub invariant-loop-group : goal.invariant-loop-group
invariant-loop-group l =
    l.bare.items ++ map without_berths (drop l.group-index l.groups) ≡ map without_berths l.groups
