use Rattle.std.proofs.Common.{length}
use Rattle.core_tables.specs.Slots.{file_for}
use Rattle.core_tables.proofs.Filled.{FilledTo}
use Rattle.core_tables.proofs.file_rows.find_each.Given as goal

-- those so far tell of their contents
abbrev pub invariant-loop-output : goal.invariant-loop-output
invariant-loop-output l = FilledTo l.slots (length l.initial.slots) l.output
    (file_for l.files l.outputs)
