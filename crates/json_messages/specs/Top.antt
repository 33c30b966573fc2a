-- A line as the object that it is.
use Rattle.std.specs.Prelude.{ℕ, if◌then◌else◌, List, Option, Some, None, is_some, Result, Ok, Err}
use Rattle.std.specs.Str.{is_utf8}
use Rattle.serde_json.specs.Data.{Data}
use Rattle.serde_json.specs.Find.{as_object}
use Rattle.serde_json.specs.Read.{read}
use Rattle.wire_messages.specs.declared.fault.MessageFault.{MessageFault}
use Rattle.wire_messages.specs.declared.fault.MessageFault.TheVariants as fault
use Rattle.json_messages.specs.Answers.{and_then}

abbrev pub if_read : Option Data → Result Data MessageFault
if_read None = Err fault.NotJson
if_read (Some d) = Ok d

-- the JSON value of the line, if it is UTF-8 and one JSON text that nests at most 127 deep
abbrev pub json_in : List ℕ → Result Data MessageFault
json_in line = if is_utf8 line then if_read (read line) else Err fault.NotJson

abbrev pub if_object : Data → Result Data MessageFault
if_object d = if is_some (as_object d) then Ok d else Err fault.NotObject

abbrev pub object_in : List ℕ → Result Data MessageFault
object_in line = and_then (json_in line) if_object
