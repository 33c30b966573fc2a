use Rattle.std.proofs.Common.{◌≡◌, ◌-◌}
use Rattle.placed_berths.specs.Due.{some_among, some_waits}
use Rattle.placed_berths.proofs.delay.Delay.some_waits.Given as goal

-- none so far
abbrev pub invariant-loop-action : goal.invariant-loop-action
invariant-loop-action l =
    some_among l.self l.state l.action (l.count - l.action) ≡ some_waits l.self l.state
