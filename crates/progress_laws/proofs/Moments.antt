-- What holds of each legal journal holds at each moment of a run.
use Rattle.std.proofs.Common.{◌⊎◌, ℕ, List, [], ◌∷◌, ◌++◌, subst}
use Rattle.exec_journal.specs.Entry.{Entry}
use Rattle.core_contract.specs.Discipline.{Discipline}
use Rattle.core_contract.specs.Disciplines.{LegalBy}
use Rattle.progress_laws.specs.Awaits.{Owes}
use Rattle.progress_laws.specs.Moments.{NeverStuck}
use Rattle.progress_laws.specs.Rests.{AllLeft, AllRest}

legal_at : (q : Discipline) (later moment : List Entry) → LegalBy q (later ++ moment)
    → LegalBy q moment
legal_at q [] moment legal = legal
legal_at q (e ∷ later) moment legal = legal_at q later moment legal.0

pub never_stuck : (q : Discipline) (lanes : ℕ)
    → ((j : List Entry) → LegalBy q j → AllRest q lanes j
    → AllLeft lanes j ⊎ ((l : ℕ) × Owes j l))
    → (j : List Entry) → LegalBy q j → NeverStuck q lanes j
never_stuck q lanes holds j legal later moment is rest =
    holds moment (legal_at q later moment (subst (LegalBy q) is legal)) rest
