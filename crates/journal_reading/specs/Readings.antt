-- Readings that are a value or nothing, and for which lack of memory may stand.
use Rattle.std.specs.Prelude.{◌≡◌, Option, Some, None, Result, Ok, Err}
use Rattle.journal_reading.specs.declared.misread.Misread.{Misread}
use Rattle.journal_reading.specs.declared.misread.Misread.TheVariants as misread

-- Nothing is due; lack of memory may stand in the place of whatever is due.
abbrev pub Misreads : {A : Type 0} → Misread → Option A → Type 0
Misreads misread.Otherwise due = due ≡ None
Misreads misread.NoMemory due = Unit {0}

-- what was read is, as it is seen, what is due
abbrev pub ReadsAs : {A B : Type 0} → (A → B) → Result A Misread → Option B → Type 0
ReadsAs see (Ok x) due = due ≡ Some (see x)
ReadsAs see (Err e) due = Misreads e due

-- what was read is what is due
abbrev pub Reads : {A : Type 0} → Result A Misread → Option A → Type 0
Reads {A} r due = ReadsAs (λ (x : A). x) r due
