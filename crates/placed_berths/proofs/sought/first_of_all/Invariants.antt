use Rattle.std.proofs.Common.{◌≡◌, ◌-◌}
use Rattle.placed_berths.specs.Due.{first_among}
use Rattle.placed_berths.proofs.sought.first_of_all.Given as goal

-- none so far
abbrev pub invariant-loop-action : goal.invariant-loop-action
invariant-loop-action g l =
    first_among (g.S.Sought.at l.sought) l.action (l.count - l.action)
    ≡ first_among (g.S.Sought.at l.sought) l.from (l.count - l.from)
