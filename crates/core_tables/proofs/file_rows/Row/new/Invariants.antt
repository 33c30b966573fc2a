use Rattle.std.proofs.Common.{◌≡◌}
use Rattle.std.specs.Prelude.{replicate}
use Rattle.core_tables.specs.declared.files.Slot.TheVariants.{Absent}
use Rattle.core_tables.proofs.file_rows.Row.new.Given as goal

-- so many empty slots so far
abbrev pub invariant-loop : goal.invariant-loop
invariant-loop l = l.slots.items ≡ replicate l.counter Absent
