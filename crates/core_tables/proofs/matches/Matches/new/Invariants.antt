use Rattle.std.proofs.Common.{◌≡◌}
use Rattle.std.specs.Prelude.{replicate}
use Rattle.core_tables.specs.Matches.{no_matches}
use Rattle.core_tables.proofs.matches.Matches.new.Given as goal

-- so many rows so far
abbrev pub invariant-loop : goal.invariant-loop
invariant-loop l = l.rows.items ≡ replicate l.counter no_matches
