use Rattle.std.proofs.Common.{take}
use Rattle.core_tables.specs.Slots.{AreNew}
use Rattle.core_tables.proofs.file_rows.new_rows.Given as goal

-- those of the actions so far
abbrev pub invariant-loop-work : goal.invariant-loop-work
invariant-loop-work l = AreNew (take l.work-index l.works) l.rows.items
