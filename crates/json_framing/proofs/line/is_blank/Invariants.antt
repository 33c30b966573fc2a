use Rattle.std.proofs.Common.{◌≡◌, ◌≤◌, ◌-◌, take, drop}
use Rattle.json_framing.specs.Lines.{is_blank}
use Rattle.json_framing.proofs.line.is_blank.Given as goal

abbrev pub invariant-loop-at : goal.invariant-loop-at
invariant-loop-at l = (l.start ≤ l.at) × (l.at ≤ l.end) × (is_blank (take (l.end - l.start) (drop l.start l.held)) ≡ is_blank (take (l.end - l.at) (drop l.at l.held)))

abbrev pub decreases-loop-at : goal.decreases-loop-at
decreases-loop-at l = l.end - l.at
