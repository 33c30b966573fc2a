use Rattle.std.proofs.Common.{◌≡◌}
use Rattle.request_table.proofs.Rowed.{map_first}
use Rattle.core_tables.specs.Matches.{spend_if}
use Rattle.core_tables.proofs.matches.spend.Given as goal

-- those so far are changed
abbrev pub invariant-loop-one : goal.invariant-loop-one
invariant-loop-one l = l.found ≡ map_first (spend_if l.attempt) l.one-index l.initial.found
