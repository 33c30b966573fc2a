use Rattle.std.proofs.Common.{◌≡◌, ◌++◌, drop}
use Rattle.shared_tasks.specs.Pools.{executors_from, pools_in, speeches_in}
use Rattle.shared_tasks.proofs.pools.SpokenPools.add_executors.Given as goal

abbrev pub invariant-loop-group : goal.invariant-loop-group
invariant-loop-group l =
    (l.number ≡ l.group-index)
    × (l.self.pools.items ++ pools_in (executors_from l.number (drop l.group-index l.groups))
    ≡ l.initial.self.pools.items ++ pools_in (executors_from 0 l.groups))
    × (l.self.speeches.items ++ speeches_in (executors_from l.number (drop l.group-index l.groups))
    ≡ l.initial.self.speeches.items ++ speeches_in (executors_from 0 l.groups))
