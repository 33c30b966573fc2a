-- The names of the keys, and what stands at one.
use Rattle.std.specs.Prelude.{ℕ, List, codes, Option, Some, None, option_and_then}
use Rattle.list_lemmas.specs.Options.{or_else}
use Rattle.serde_json.specs.Data.{Data, null, boolean, number, string, array, object}
use Rattle.serde_json.specs.Find.{get}
use Rattle.wire_messages.specs.declared.fault.JsonKey.{JsonKey}
use Rattle.wire_messages.specs.declared.fault.JsonKey.TheVariants as key

-- the name that is written
abbrev pub camel : JsonKey → List ℕ
camel key.Arguments = codes "arguments"
camel key.Inputs = codes "inputs"
camel key.Path = codes "path"
camel key.Digest = codes "digest"
camel key.RequestId = codes "requestId"
camel key.Cancel = codes "cancel"
camel key.Verbosity = codes "verbosity"
camel key.SandboxDir = codes "sandboxDir"
camel key.ExitCode = codes "exitCode"
camel key.Output = codes "output"
camel key.WasCancelled = codes "wasCancelled"

-- the other name that is read
abbrev pub snake : JsonKey → List ℕ
snake key.Arguments = codes "arguments"
snake key.Inputs = codes "inputs"
snake key.Path = codes "path"
snake key.Digest = codes "digest"
snake key.RequestId = codes "request_id"
snake key.Cancel = codes "cancel"
snake key.Verbosity = codes "verbosity"
snake key.SandboxDir = codes "sandbox_dir"
snake key.ExitCode = codes "exit_code"
snake key.Output = codes "output"
snake key.WasCancelled = codes "was_cancelled"

-- `null` stands for the default, as nothing does
abbrev pub unless_null : Data → Option Data
unless_null null = None
unless_null (boolean b) = Some (boolean b)
unless_null (number n) = Some (number n)
unless_null (string s) = Some (string s)
unless_null (array ds) = Some (array ds)
unless_null (object ms) = Some (object ms)

-- What stands at a key of an object. If both names are there, the first one counts, and the other
-- isn't looked at.
abbrev pub value_at : JsonKey → Data → Option Data
value_at k d = option_and_then unless_null (or_else (get (camel k) d) (get (snake k) d))
