-- What a decoder answered is all that it could answer.
use Rattle.std.proofs.Common.{◌≡◌, ℕ, List, Result, Ok, Err, refl}
use Rattle.std.specs.Prelude.{IfOk, IfErr}
use Rattle.wire_fields.specs.Varint.{Fault, CutField, BadVarint, BadTag, BadText}
use Rattle.wire_fields.specs.Field.{WireField}
use Rattle.wire_fields.specs.Message.{Spells, FirstFault}
use Rattle.wire_fields.proofs.Messages.{spells_or_faulty, one_first_fault, one_message}
use Rattle.wire_messages.specs.declared.fault.MessageFault.{MessageFault}
use Rattle.wire_messages.specs.declared.fault.MessageFault.TheVariants as fault
use Rattle.wire_messages.specs.Fault.{Fails, Answers}

-- where no fault is there, memory ran out
pub only_memory : (e : MessageFault) (P : Fault → Type 0) → Fails e P → ((x : Fault) → P x → ⊥) → e ≡ fault.NoMemory
only_memory fault.CutField P f none = absurd (none CutField f)
only_memory fault.BadVarint P f none = absurd (none BadVarint f)
only_memory fault.BadTag P f none = absurd (none BadTag f)
only_memory fault.BadText P f none = absurd (none BadText f)
only_memory fault.NotJson P f none = absurd f
only_memory fault.NotObject P f none = absurd f
only_memory (fault.WrongKind key) P f none = absurd f
only_memory (fault.OutOfRange key) P f none = absurd f
only_memory fault.NoMemory P f none = refl

pub Fails-weaker : (e : MessageFault) (P Q : Fault → Type 0) → Fails e P → ((x : Fault) → P x → Q x) → Fails e Q
Fails-weaker fault.CutField P Q f weaker = weaker CutField f
Fails-weaker fault.BadVarint P Q f weaker = weaker BadVarint f
Fails-weaker fault.BadTag P Q f weaker = weaker BadTag f
Fails-weaker fault.BadText P Q f weaker = weaker BadText f
Fails-weaker fault.NotJson P Q f weaker = f
Fails-weaker fault.NotObject P Q f weaker = f
Fails-weaker (fault.WrongKind key) P Q f weaker = f
Fails-weaker (fault.OutOfRange key) P Q f weaker = f
Fails-weaker fault.NoMemory P Q f weaker = tt

pub only : {M : Type 0} (refuses : WireField → Fault → Type 0) (means : List WireField → M → Type 0) → ((fs : List WireField) (m n : M) → means fs m → means fs n → m ≡ n)
    → (bytes : List ℕ) (r : Result M MessageFault) (m : M)
    → IfOk r (λ n. Spells refuses means bytes n) → IfErr r (λ e. Fails e (FirstFault refuses bytes)) → Spells refuses means bytes m → Answers r (Ok m)
only refuses means one bytes (Ok n) m found failed s = one_message refuses means one bytes n m found s
only refuses means one bytes (Err e) m found failed s = only_memory e (FirstFault refuses bytes) failed (λ x f. spells_or_faulty refuses means bytes m x s f)

pub only_fault : {M : Type 0} (refuses : WireField → Fault → Type 0) (means : List WireField → M → Type 0) → ((f : WireField) (x y : Fault) → refuses f x → refuses f y → x ≡ y)
    → (bytes : List ℕ) (r : Result M MessageFault) (x : Fault)
    → IfOk r (λ n. Spells refuses means bytes n) → IfErr r (λ e. Fails e (FirstFault refuses bytes)) → FirstFault refuses bytes x → Answers r (Err x)
only_fault refuses means one bytes (Ok n) x found failed f = spells_or_faulty refuses means bytes n x found f
only_fault refuses means one bytes (Err e) x found failed f = Fails-weaker e (FirstFault refuses bytes) (λ y. y ≡ x) failed (λ y g. one_first_fault refuses one bytes y x g f)
