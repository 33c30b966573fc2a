use Rattle.std.proofs.Common.{◌≡◌, ◌++◌, drop}
use Rattle.spawn_strategies.specs.Placing.{all_named}
use Rattle.spawn_strategies.proofs.copies.with_names.Given as goal

abbrev pub invariant-loop-number : goal.invariant-loop-number
invariant-loop-number l =
    l.copies.items ++ all_named (drop l.number l.names) (drop l.number l.actions)
    ≡ all_named l.names l.actions
