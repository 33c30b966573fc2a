use Rattle.std.proofs.Common.{◌≡◌, []}
use Rattle.std.specs.Prelude.{replicate}
use Rattle.cancel_rules.specs.Marks.{row}
use Rattle.cancel_rules.proofs.new_lines.Given as goal

-- so many lines so far
abbrev pub invariant-loop : goal.invariant-loop
invariant-loop l = l.lines.items ≡ replicate l.counter (row [])
