use Rattle.std.proofs.Common.{◌≡◌, ◌+◌, ◌≤◌, ◌-◌, length, drop}
use Rattle.json_framing.specs.Lines.{line_length}
use Rattle.json_framing.proofs.line.line_end.Given as goal

abbrev pub invariant-loop-at : goal.invariant-loop-at
invariant-loop-at l = (l.at ≤ length l.held) × (l.from + line_length (drop l.from l.held) ≡ l.at + line_length (drop l.at l.held))

abbrev pub decreases-loop-at : goal.decreases-loop-at
decreases-loop-at l = length l.held - l.at
