-- Work requests.
use Rattle.std.specs.Prelude.{◌≡◌, ℕ, List, ◌⊎◌, ◌++◌, length, ◌<◌, ◌^◌, map, All, FitsSigned}
use Rattle.std.specs.Int.{w32}
use Rattle.wire_fields.specs.After.{IsText}
use Rattle.wire_fields.specs.Spelling.{bytes_field, int32_field, bool_field, repeated_field, spelling}
use Rattle.wire_fields.specs.Varint.{Fault}
use Rattle.wire_fields.specs.Field.{WireField}
use Rattle.wire_fields.specs.Message.{last_int32, last_bool, last_bytes, spans, RefusesText, RefusesMessage, AreSpelled, Spells, FirstFault}
use Rattle.wire_messages.specs.declared.input.Input.{Input}
use Rattle.wire_messages.specs.declared.request.WorkRequest.{WorkRequest}
use Rattle.wire_messages.specs.Input.{input_fields, IsInputValue, SpellsInput, FaultyInput}

-- what the fields mean
pub record IsRequest (fs : List WireField) (m : WorkRequest) : Type 0 where
  pub arguments : m.arguments ≡ spans 1 fs
  pub inputs : AreSpelled SpellsInput (spans 2 fs) m.inputs
  pub request_id : m.request_id ≡ last_int32 3 fs
  pub cancel : m.cancel ≡ last_bool 4 fs
  pub verbosity : m.verbosity ≡ last_int32 5 fs
  pub sandbox_dir : m.sandbox_dir ≡ last_bytes 6 fs

-- its arguments and its sandbox are texts, and its inputs are inputs
abbrev pub request_refuses : WireField → Fault → Type 0
request_refuses f x = RefusesText 1 f x ⊎ (RefusesMessage FaultyInput 2 f x ⊎ RefusesText 6 f x)

abbrev pub SpellsRequest : List ℕ → WorkRequest → Type 0
SpellsRequest bytes m = Spells request_refuses IsRequest bytes m

abbrev pub FaultyRequest : List ℕ → Fault → Type 0
FaultyRequest bytes x = FirstFault request_refuses bytes x

-- the written form of an input
abbrev pub input_spelling : Input → List ℕ
input_spelling m = spelling (input_fields m)

-- the fields that are written of a request
unfoldable pub request_fields : WorkRequest → List WireField
request_fields m = repeated_field 1 m.arguments ++ repeated_field 2 (map input_spelling m.inputs)
    ++ int32_field 3 m.request_id ++ bool_field 4 m.cancel ++ int32_field 5 m.verbosity
    ++ bytes_field 6 m.sandbox_dir

-- the one written form of a request
abbrev pub request_spelling : WorkRequest → List ℕ
request_spelling m = spelling (request_fields m)

-- what holds of each request
pub record IsRequestValue (m : WorkRequest) : Type 0 where
  pub arguments : All IsText m.arguments
  pub inputs : All (λ i. IsInputValue i × (length (input_spelling i) < 2 ^ 64)) m.inputs
  pub request_id : FitsSigned w32 m.request_id
  pub verbosity : FitsSigned w32 m.verbosity
  pub sandbox_dir : IsText m.sandbox_dir
