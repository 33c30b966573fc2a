-- Answers that are an outcome or its first fault, and for which lack of memory may stand.
use Rattle.std.specs.Prelude.{◌≡◌, List, [], ◌∷◌, Result, Ok, Err}
use Rattle.list_actions.specs.declared.faults.ListFault.{ListFault}
use Rattle.list_actions.specs.declared.faults.ListRefusal.{ListRefusal}
use Rattle.list_actions.specs.declared.faults.ListRefusal.TheVariants as refusal

-- what one rule says: nothing, or its fault
abbrev pub Check : Type 0
Check = Result (Unit {0}) ListFault

-- the first fault in this order
abbrev pub first : List Check → Check
first [] = Ok tt
first (Ok fine ∷ checks) = first checks
first (Err f ∷ checks) = Err f

-- what follows where there is no fault
abbrev pub and_then : {A B : Type 0} → Result A ListFault → (A → Result B ListFault)
    → Result B ListFault
and_then (Ok x) f = f x
and_then (Err e) f = Err e

-- this fault is the one that is due; lack of memory may always stand in its place
abbrev pub Refuses : {A : Type 0} → ListRefusal → Result A ListFault → Type 0
Refuses (refusal.Fault f) due = due ≡ Err f
Refuses refusal.NoMemory due = Unit {0}

-- There is no fault, or it is answered.
abbrev pub Settles : {A : Type 0} → Result A ListRefusal → Check → Type 0
Settles (Ok x) due = due ≡ Ok tt
Settles (Err r) due = Refuses r due

-- The outcome, or the fault that stands in its way.
abbrev pub Answers : {A : Type 0} → Result A ListRefusal → Result A ListFault → Type 0
Answers (Ok x) due = due ≡ Ok x
Answers (Err r) due = Refuses r due
