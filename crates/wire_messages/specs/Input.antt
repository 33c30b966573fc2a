-- Inputs of a request.
use Rattle.std.specs.Prelude.{◌≡◌, ℕ, List, ◌++◌, length, ◌<◌, ◌^◌}
use Rattle.wire_fields.specs.After.{IsText}
use Rattle.wire_fields.specs.Spelling.{bytes_field}
use Rattle.wire_fields.specs.Varint.{Fault}
use Rattle.wire_fields.specs.Field.{WireField}
use Rattle.wire_fields.specs.Message.{last_bytes, RefusesText, Spells, FirstFault}
use Rattle.wire_messages.specs.declared.input.Input.{Input}

-- what the fields mean
pub record IsInput (fs : List WireField) (m : Input) : Type 0 where
  pub path : m.path ≡ last_bytes 1 fs
  pub digest : m.digest ≡ last_bytes 2 fs

-- its path is a text
abbrev pub input_refuses : WireField → Fault → Type 0
input_refuses f x = RefusesText 1 f x

abbrev pub SpellsInput : List ℕ → Input → Type 0
SpellsInput bytes m = Spells input_refuses IsInput bytes m

abbrev pub FaultyInput : List ℕ → Fault → Type 0
FaultyInput bytes x = FirstFault input_refuses bytes x

-- the fields that are written of an input
unfoldable pub input_fields : Input → List WireField
input_fields m = bytes_field 1 m.path ++ bytes_field 2 m.digest

-- what holds of each input
pub record IsInputValue (m : Input) : Type 0 where
  pub path : IsText m.path
  pub digest : length m.digest < 2 ^ 64
