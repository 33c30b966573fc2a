-- Jobs for a remote executor.
use Rattle.std.specs.Prelude.{◌≡◌, ◌⊎◌, ℕ, List, ◌++◌, length, ◌<◌, ◌^◌, map, All, FitsSigned}
use Rattle.std.specs.Int.{w32}
use Rattle.wire_fields.specs.After.{IsText}
use Rattle.wire_fields.specs.Spelling.{int32_field, bool_field, repeated_field, spelling}
use Rattle.wire_fields.specs.Varint.{Fault}
use Rattle.wire_fields.specs.Field.{WireField}
use Rattle.wire_fields.specs.Message.{last_int32, last_bool, spans, RefusesText, RefusesMessage, AreSpelled, Spells, FirstFault}
use Rattle.remote_messages.specs.declared.file.NamedFile.{NamedFile}
use Rattle.remote_messages.specs.declared.job.Job.{Job}
use Rattle.remote_messages.specs.File.{file_fields, IsFileValue, SpellsFile, FaultyFile}
use Rattle.remote_messages.specs.Variable.{variable_spelling, HasVariableForm, SpellsVariable, FaultyVariable}

-- what the fields mean
pub record IsJob (fs : List WireField) (m : Job) : Type 0 where
  pub id : m.id ≡ last_int32 1 fs
  pub arguments : m.arguments ≡ spans 2 fs
  pub inputs : AreSpelled SpellsFile (spans 3 fs) m.inputs
  pub outputs : m.outputs ≡ spans 4 fs
  pub env : AreSpelled SpellsVariable (spans 5 fs) m.env
  pub cancel : m.cancel ≡ last_bool 6 fs

-- its arguments and outputs are texts, its inputs files, and its environment variables
abbrev pub job_refuses : WireField → Fault → Type 0
job_refuses f x =
    RefusesText 2 f x
    ⊎ (RefusesMessage FaultyFile 3 f x ⊎ (RefusesText 4 f x ⊎ RefusesMessage FaultyVariable 5 f x))

abbrev pub SpellsJob : List ℕ → Job → Type 0
SpellsJob bytes m = Spells job_refuses IsJob bytes m

abbrev pub FaultyJob : List ℕ → Fault → Type 0
FaultyJob bytes x = FirstFault job_refuses bytes x

-- the written form of a file
abbrev pub file_spelling : NamedFile → List ℕ
file_spelling m = spelling (file_fields m)

-- the fields that are written of a job
unfoldable pub job_fields : Job → List WireField
job_fields m = int32_field 1 m.id ++ repeated_field 2 m.arguments
    ++ repeated_field 3 (map file_spelling m.inputs)
    ++ repeated_field 4 m.outputs ++ repeated_field 5 (map variable_spelling m.env)
    ++ bool_field 6 m.cancel

-- the one written form of a job
abbrev pub job_spelling : Job → List ℕ
job_spelling m = spelling (job_fields m)

-- what holds of each job
pub record IsJobValue (m : Job) : Type 0 where
  pub id : FitsSigned w32 m.id
  pub arguments : All IsText m.arguments
  pub inputs : All (λ f. IsFileValue f × (length (file_spelling f) < 2 ^ 64)) m.inputs
  pub outputs : All IsText m.outputs
  pub env : All HasVariableForm m.env
