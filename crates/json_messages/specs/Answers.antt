-- Answers that are a value or the first fault, and for which lack of memory may stand.
use Rattle.std.specs.Prelude.{◌≡◌, ◌⊎◌, Result, Ok, Err}
use Rattle.wire_messages.specs.declared.fault.MessageFault.{MessageFault}
use Rattle.wire_messages.specs.declared.fault.MessageFault.TheVariants as fault

-- what follows if there is no fault
abbrev pub and_then : {A B : Type 0} → Result A MessageFault → (A → Result B MessageFault)
    → Result B MessageFault
and_then (Ok x) f = f x
and_then (Err e) f = Err e

-- This fault is the one that is due; lack of memory may always stand in its place.
abbrev pub Refuses : {A : Type 0} → MessageFault → Result A MessageFault → Type 0
Refuses e due = (e ≡ fault.NoMemory) ⊎ (due ≡ Err e)

-- what was answered stands for what is due
abbrev pub AnswersAs : {A B : Type 0} → (A → B) → Result A MessageFault → Result B MessageFault
    → Type 0
AnswersAs view (Ok x) due = due ≡ Ok (view x)
AnswersAs view (Err e) due = Refuses e due

-- what was answered is what is due
abbrev pub Answers : {A : Type 0} → Result A MessageFault → Result A MessageFault → Type 0
Answers {A} r due = AnswersAs (λ (x : A). x) r due
