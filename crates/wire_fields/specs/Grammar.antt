-- The grammar of a varint, said of bytes and not of a reader. Protocol Buffers' encoding page,
-- section "Base 128 Varints": each byte has a continuation bit, its top bit, which says that a
-- further byte belongs to the number, and a payload of seven bits; the payloads make up the number,
-- the lowest first. A number of 64 bits takes ten bytes at most, and the tenth has the one bit that
-- nine payloads leave of 64.
use Rattle.std.specs.Prelude.{◌≡◌, ◌↔◌, ℕ, ◌+◌, ◌*◌, ◌%◌, ◌^◌, ◌<◌, ◌≤◌, List, [], ◌∷◌, ◌++◌, length, take, Ok, Err}
use Rattle.std.specs.List.{AllByRecursion}
use Rattle.wire_fields.specs.declared.varint.Varint.{Varint}
use Rattle.wire_fields.specs.declared.varint.Varint.TheVariants.{Whole, Cut, Bad}
use Rattle.wire_fields.specs.Varint.{CutField, BadVarint, varint_at, varint}

-- the continuation bit is set
abbrev pub Continues : ℕ → Type 0
Continues byte = 128 ≤ byte

-- the number that the payloads make up
abbrev pub payload : List ℕ → ℕ
payload [] = 0
payload (byte ∷ more) = byte % 128 + 128 * payload more

-- all the bytes are the number: each continues but the last
pub record IsVarint (bytes : List ℕ) (number : ℕ) : Type 0 where
  pub front : List ℕ
  pub last : ℕ
  pub whole : bytes ≡ front ++ last ∷ []
  pub continued : AllByRecursion Continues front
  pub ended : last < 128
  pub short : length front ≤ 9
  pub tenth : length front ≡ 9 → last ≤ 1
  pub value : number ≡ payload bytes

-- the bytes end inside a number
pub record IsCutVarint (bytes : List ℕ) : Type 0 where
  pub continued : AllByRecursion Continues bytes
  pub short : length bytes ≤ 9

-- a number begins the bytes that goes on behind its tenth byte or does not fit 64 bits
pub record IsBadVarint (bytes : List ℕ) : Type 0 where
  pub front : List ℕ
  pub tenth : ℕ
  pub rest : List ℕ
  pub whole : bytes ≡ front ++ tenth ∷ rest
  pub continued : AllByRecursion Continues front
  pub nine : length front ≡ 9
  pub above : 1 < tenth

-- a number begins the bytes, and these come after it
pub record BeginsWith (bytes : List ℕ) (number : ℕ) (rest : List ℕ) : Type 0 where
  pub front : List ℕ
  pub spelled : IsVarint front number
  pub whole : bytes ≡ front ++ rest

-- what was read, in the words of the grammar
abbrev pub SpellsVarint : List ℕ → Varint → Type 0
SpellsVarint bytes (Whole value used) = IsVarint (take used bytes) value
SpellsVarint bytes Cut = IsCutVarint bytes
SpellsVarint bytes Bad = IsBadVarint bytes

-- The function of the bytes that every other definition uses says what the grammar says, and what
-- is written is spelled so, in the fewest bytes.
pub record VarintGrammar : Type 0 where
  pub whole : (bytes : List ℕ) (number : ℕ) (rest : List ℕ)
      → (varint_at bytes ≡ Ok (number, rest)) ↔ BeginsWith bytes number rest
  pub cut : (bytes : List ℕ) → (varint_at bytes ≡ Err CutField) ↔ IsCutVarint bytes
  pub bad : (bytes : List ℕ) → (varint_at bytes ≡ Err BadVarint) ↔ IsBadVarint bytes
  pub written : (number : ℕ) → number < 2 ^ 64 → IsVarint (varint number) number
  pub shortest : (bytes : List ℕ) (number : ℕ) → IsVarint bytes number
      → length (varint number) ≤ length bytes
