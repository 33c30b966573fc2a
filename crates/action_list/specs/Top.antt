-- The bytes of a list as JSON, and the values of its actions.
use Rattle.std.specs.Prelude.{ℕ, if◌then◌else◌, nat_le, List, length, codes, Option, Some, None, is_some, Result, Ok, Err}
use Rattle.std.specs.Str.{is_utf8}
use Rattle.serde_json.specs.Data.{Data, Items}
use Rattle.serde_json.specs.Find.{as_array, as_object, get}
use Rattle.serde_json.specs.Read.{read}
use Rattle.list_actions.specs.declared.faults.ListFault.{ListFault}
use Rattle.list_actions.specs.declared.faults.ListFault.TheVariants as fault
use Rattle.list_actions.specs.declared.faults.Key.TheVariants as key
use Rattle.list_actions.specs.declared.faults.What.TheVariants as what
use Rattle.action_list.specs.Format.{datas}
use Rattle.run_plan.specs.Limits.{most_actions}

abbrev pub if_read : Option Data → Result Data ListFault
if_read None = Err fault.NotJson
if_read (Some d) = Ok d

-- the JSON value of the bytes, where they are UTF-8 and one JSON text that nests at most 127 deep
abbrev pub json_in : List ℕ → Result Data ListFault
json_in bytes =
    if nat_le (length bytes) 33554432
    then (if is_utf8 bytes then if_read (read bytes) else Err fault.NotJson)
    else Err (fault.TooMany what.Bytes (length bytes))

abbrev pub few_actions : List Data → Result (List Data) ListFault
few_actions ds =
    if nat_le (length ds) most_actions then Ok ds else Err (fault.TooMany what.Actions (length ds))

abbrev pub if_array : Option Items → Result (List Data) ListFault
if_array None = Err (fault.WrongKind None key.Actions)
if_array (Some ds) = few_actions (datas ds)

abbrev pub if_there : Option Data → Result (List Data) ListFault
if_there None = Err (fault.MissingKey None key.Actions)
if_there (Some d) = if_array (as_array d)

-- the values of the actions
abbrev pub actions_in : Data → Result (List Data) ListFault
actions_in d = if is_some (as_object d) then if_there (get (codes "actions") d)
    else Err (fault.WrongKind None key.Top)
