-- The moments of a run, each of which is a journal: that of the run without its newest entries.
use Rattle.std.specs.Prelude.{◌≡◌, ◌⊎◌, ℕ, List, ◌++◌}
use Rattle.exec_journal.specs.Entry.{Entry}
use Rattle.core_contract.specs.Discipline.{Discipline}
use Rattle.progress_laws.specs.Awaits.{Owes}
use Rattle.progress_laws.specs.Rests.{AllLeft, AllRest}

-- At no moment do all of these lanes rest, unless all have left, or some process owes an answer or
-- its end.
abbrev pub NeverStuck : Discipline → ℕ → List Entry → Type 0
NeverStuck q lanes j = (later moment : List Entry) → j ≡ later ++ moment → AllRest q lanes moment
    → AllLeft lanes moment ⊎ ((l : ℕ) × Owes moment l)
