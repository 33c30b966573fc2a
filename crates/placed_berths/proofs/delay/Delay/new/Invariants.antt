use Rattle.std.proofs.Common.{◌≡◌, map, take}
use Rattle.placed_berths.specs.Due.{first_mark}
use Rattle.placed_berths.proofs.delay.Delay.new.Given as goal

abbrev pub invariant-loop-action : goal.invariant-loop-action
invariant-loop-action l =
    l.marks.items ≡ map (first_mark l.plan l.ticks) (take l.action-index l.actions)
