use Rattle.std.proofs.Common.{◌≡◌, ◌++◌, replicate}
use Rattle.shared_tasks.proofs.pools.SpokenPools.add.Given as goal

abbrev pub invariant-loop-berth : goal.invariant-loop-berth
invariant-loop-berth l =
    (l.self.pools.items ≡ l.initial.self.pools.items)
    × (l.self.speeches.items ≡ l.initial.self.speeches.items ++ replicate l._berth l.speech)
