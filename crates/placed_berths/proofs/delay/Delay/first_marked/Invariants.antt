use Rattle.std.proofs.Common.{◌≡◌, ◌-◌, ◌≤◌, length}
use Rattle.placed_berths.specs.Due.{first_among}
use Rattle.placed_berths.proofs.delay.Delay.first_marked.Given as goal

-- none so far
abbrev pub invariant-loop-action : goal.invariant-loop-action
invariant-loop-action g l = record {
  within : l.start ≤ length l.self.marks;
  none : first_among (g.S.Sought.at l.sought) l.start (length l.self.marks - l.start)
      ≡ first_among (g.S.Sought.at l.sought) l.from (length l.self.marks - l.from);
}

abbrev pub decreases-loop-action : goal.decreases-loop-action
decreases-loop-action g l = length l.self.marks - l.start
