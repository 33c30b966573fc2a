use Rattle.std.proofs.Common.{◌≡◌, ◌≤◌}
use Rattle.shared_laws.specs.Berths.{lines_held}
use Rattle.placed_berths.proofs.lines.lines_held.Given as goal

-- so many so far
abbrev pub invariant-loop-berth : goal.invariant-loop-berth
invariant-loop-berth l = (l.held ≡ lines_held l.state l.group l.berth) × (l.held ≤ l.berth)
