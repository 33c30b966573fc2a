-- What a decoder answers about a fault.
use Rattle.std.specs.Prelude.{◌≡◌, Result, Ok, Err}
use Rattle.wire_messages.specs.declared.fault.MessageFault.{MessageFault}
use Rattle.wire_messages.specs.declared.fault.MessageFault.TheVariants as fault
use Rattle.wire_fields.specs.declared.field.FieldFault.{FieldFault}
use Rattle.wire_fields.specs.declared.field.FieldFault.TheVariants as field
use Rattle.wire_fields.specs.Varint.{Fault, CutField, BadVarint, BadTag, BadText}

abbrev pub fault_of : FieldFault → MessageFault
fault_of field.BadVarint = fault.BadVarint
fault_of field.BadTag = fault.BadTag

-- The bytes have this fault, or memory ran out. The faults of the JSON form are never answered.
abbrev pub Fails : MessageFault → (Fault → Type 0) → Type 0
Fails fault.CutField P = P CutField
Fails fault.BadVarint P = P BadVarint
Fails fault.BadTag P = P BadTag
Fails fault.BadText P = P BadText
Fails fault.NotJson P = ⊥
Fails fault.NotObject P = ⊥
Fails (fault.WrongKind key) P = ⊥
Fails (fault.OutOfRange key) P = ⊥
Fails fault.NoMemory P = Unit {0}

-- What was answered is this, or memory ran out.
abbrev pub Answers : {M : Type 0} → Result M MessageFault → Result M Fault → Type 0
Answers (Ok m) (Ok n) = m ≡ n
Answers (Ok m) (Err x) = ⊥
Answers (Err e) (Ok n) = e ≡ fault.NoMemory
Answers (Err e) (Err x) = Fails e (λ y. y ≡ x)
