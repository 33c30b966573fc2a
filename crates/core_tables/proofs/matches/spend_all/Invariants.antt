use Rattle.std.proofs.Common.{◌≡◌}
use Rattle.request_table.proofs.Rowed.{map_first}
use Rattle.core_tables.specs.Matches.{won_row}
use Rattle.core_tables.proofs.matches.spend_all.Given as goal

-- those so far are changed
abbrev pub invariant-loop-row : goal.invariant-loop-row
invariant-loop-row l = l.rows ≡ map_first (won_row l.action) l.row-index l.initial.rows
