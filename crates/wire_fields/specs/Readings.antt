-- Bytes are read in one way: they spell one message, or one fault comes first.
use Rattle.std.specs.Prelude.{◌≡◌, ◌⊎◌, ℕ, List}
use Rattle.wire_fields.specs.Varint.{Fault}
use Rattle.wire_fields.specs.Field.{WireField}
use Rattle.wire_fields.specs.Message.{Spells, FirstFault}

pub record IsReadOneWay {M : Type 0} (refuses : WireField → Fault → Type 0)
    (means : List WireField → M → Type 0) : Type 0 where
  pub some : (bytes : List ℕ) → ((m : M) × Spells refuses means bytes m)
      ⊎ ((x : Fault) × FirstFault refuses bytes x)
  pub one_message : (bytes : List ℕ) (m n : M) → Spells refuses means bytes m
      → Spells refuses means bytes n → m ≡ n
  pub one_fault : (bytes : List ℕ) (x y : Fault) → FirstFault refuses bytes x
      → FirstFault refuses bytes y → x ≡ y
  pub either : (bytes : List ℕ) (m : M) (x : Fault) → Spells refuses means bytes m
      → FirstFault refuses bytes x → ⊥
