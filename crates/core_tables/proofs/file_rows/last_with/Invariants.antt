use Rattle.std.proofs.Common.{take}
use Rattle.exec_journal.specs.Rules.{last_file}
use Rattle.core_tables.specs.Slots.{Tells}
use Rattle.core_tables.proofs.file_rows.last_with.Given as goal

-- the last of those so far
abbrev pub invariant-loop-file : goal.invariant-loop-file
invariant-loop-file l = Tells l.slot (last_file (take l.file-index l.files) l.path)
