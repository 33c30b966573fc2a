-- The history of a journal: the same entries, as the desk of the lanes has them.
use Rattle.std.specs.Prelude.{List}
use Rattle.exec_journal.specs.Entry.{Entry}
use Rattle.core_contract.specs.Moves.{History}

-- the oldest entry stands first in both
abbrev pub history_of : List Entry → History
history_of j = j
