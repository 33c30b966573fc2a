-- Varints as functions of the bytes, which the other definitions use. `Grammar` says the same of
-- bytes without a reader, and `varint_grammar` that both agree. (Protocol Buffers' encoding page,
-- section "Base 128 Varints".)
use Rattle.std.specs.Prelude.{◌≡◌, ℕ, zero, suc, ◌+◌, ◌*◌, ◌/◌, ◌%◌, ◌^◌, ◌<◌, ◌≤◌, List, [], ◌∷◌, length, drop, Result, Ok, Err, nat_lt, nat_le, if◌then◌else◌}
use Rattle.wire_fields.specs.declared.varint.Varint.{Varint}
use Rattle.wire_fields.specs.declared.varint.Varint.TheVariants.{Whole, Cut, Bad}

-- what is wrong with the bytes of a message
pub data Fault : Type 0 where
  CutField : Fault
  BadVarint : Fault
  BadTag : Fault
  BadText : Fault

-- seven more bits below a number that was read
abbrev pub below : ℕ → Result (ℕ × List ℕ) Fault → Result (ℕ × List ℕ) Fault
below byte (Ok read) = Ok (byte % 128 + 128 * read.0, read.1)
below byte (Err fault) = Err fault

-- The number at the front, and the bytes after it, where so many bytes may stand before its last
-- one. A tenth byte has the one bit that is left of 64.
unfoldable pub number_at : ℕ → List ℕ → Result (ℕ × List ℕ) Fault
number_at more [] = Err CutField
number_at zero (byte ∷ rest) = if nat_le byte 1 then Ok (byte, rest) else Err BadVarint
number_at (suc more) (byte ∷ rest) =
    if nat_lt byte 128 then Ok (byte, rest) else below byte (number_at more rest)

-- the number at the front, in ten bytes at most, and the bytes after it
unfoldable pub varint_at : List ℕ → Result (ℕ × List ℕ) Fault
varint_at bytes = number_at 9 bytes

-- what was read is what stands at the front of the bytes
abbrev pub IsVarintAt : List ℕ → Varint → Type 0
IsVarintAt bytes (Whole value used) = (varint_at bytes ≡ Ok (value, drop used bytes))
    × (used ≤ length bytes) × (0 < used) × (value < 2 ^ 64)
IsVarintAt bytes Cut = varint_at bytes ≡ Err CutField
IsVarintAt bytes Bad = varint_at bytes ≡ Err BadVarint

-- The bytes of a number, with no group of zeros on top, where so many may stand before the last
-- one. A writer uses this form.
unfoldable pub number_bytes : ℕ → ℕ → List ℕ
number_bytes zero n = n ∷ []
number_bytes (suc more) n =
    if nat_lt n 128 then n ∷ [] else (n % 128 + 128) ∷ number_bytes more (n / 128)

-- the shortest bytes of a number below 2 ^ 64
unfoldable pub varint : ℕ → List ℕ
varint n = number_bytes 9 n
