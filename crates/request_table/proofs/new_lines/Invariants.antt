use Rattle.std.proofs.Common.{◌≡◌}
use Rattle.std.specs.Prelude.{replicate}
use Rattle.request_table.specs.Rows.{new_line}
use Rattle.request_table.proofs.new_lines.Given as goal

-- so many lines so far
abbrev pub invariant-loop : goal.invariant-loop
invariant-loop l = l.lines.items ≡ replicate l.counter new_line
