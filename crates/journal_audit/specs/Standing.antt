-- When the core that an auditor asks stands for a journal.
use Rattle.std.specs.Prelude.{List}
use Rattle.core_contract.specs.Discipline.{Discipline}
use Rattle.exec_journal.specs.Entry.{Entry}
use Rattle.spawn_core.specs.Stands.{StandsIn}
use Rattle.journal_audit.specs.declared.asked.Asked.{Asked}

abbrev pub AskedStands : {M B : Type 0} → (B → Discipline) → (B → M → List Entry → Type 0) → B
    → Asked M B → List Entry → Type 0
AskedStands rules owns b a j = StandsIn (rules b) (owns b) a.core j
