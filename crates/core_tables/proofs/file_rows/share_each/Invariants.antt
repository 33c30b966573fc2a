use Rattle.std.proofs.Common.{length}
use Rattle.std.specs.Prelude.{slice_get}
use Rattle.core_tables.proofs.Filled.{FilledTo}
use Rattle.core_tables.proofs.file_rows.share_each.Given as goal

-- those so far tell of their contents
abbrev pub invariant-loop-output : goal.invariant-loop-output
invariant-loop-output l = FilledTo l.slots (length l.initial.slots) l.output
    (λ o. slice_get l.files o)
