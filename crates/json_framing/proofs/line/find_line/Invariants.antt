use Rattle.std.proofs.Common.{length, ◌-◌, ◌≡◌, ◌+◌, ◌≤◌, drop}
use Rattle.json_framing.specs.Lines.{Skips, line_length}
use Rattle.json_framing.proofs.line.find_line.Given as goal

-- Blank lines stand before the start, and the end is that of the line there.
abbrev pub invariant-loop-end : goal.invariant-loop-end
invariant-loop-end l = record {
  skipped : Skips l.limit l.held (drop l.start l.held);
  ends : l.end ≡ l.start + line_length (drop l.start l.held);
  within : l.end ≤ length l.held;
}

abbrev pub decreases-loop-end : goal.decreases-loop-end
decreases-loop-end l = length l.held - l.end
