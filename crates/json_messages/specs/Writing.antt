-- The written form of a message: an object with a member for each part that isn't at its default.
use Rattle.std.specs.Prelude.{ℕ, zero, suc, ℤ, pos, negsuc, Bool, true, false, List, [], ◌∷◌, ◌++◌, map, Option, Some, None}
use Rattle.serde_json.specs.Data.{Data, boolean, number, unsigned, negative, string, array, object, Members, no_members, put}
use Rattle.serde_json.specs.View.{items_of}
use Rattle.serde_json.specs.Written.{compact_text}
use Rattle.base64.specs.Engines.{standard}
use Rattle.base64.specs.GeneralPurpose.{encode_of}
use Rattle.wire_messages.specs.declared.fault.JsonKey.{JsonKey}
use Rattle.wire_messages.specs.declared.fault.JsonKey.TheVariants as key
use Rattle.wire_messages.specs.declared.input.Input.{Input}
use Rattle.wire_messages.specs.declared.request.WorkRequest.{WorkRequest}
use Rattle.wire_messages.specs.declared.response.WorkResponse.{WorkResponse}
use Rattle.json_messages.specs.Keys.{camel}

-- what is written of a part, and nothing of a default

abbrev pub number_data : ℤ → Option Data
number_data (pos zero) = None
number_data (pos (suc n)) = Some (number (unsigned (suc n)))
number_data (negsuc n) = Some (number (negative (negsuc n)))

abbrev pub flag_data : Bool → Option Data
flag_data true = Some (boolean true)
flag_data false = None

abbrev pub text_data : List ℕ → Option Data
text_data [] = None
text_data (b ∷ bs) = Some (string (b ∷ bs))

-- in padded base64 (RFC 4648)
abbrev pub digest_data : List ℕ → Option Data
digest_data [] = None
digest_data (b ∷ bs) = Some (string (encode_of standard (b ∷ bs)))

abbrev pub array_data : List Data → Option Data
array_data [] = None
array_data (d ∷ ds) = Some (array (items_of (d ∷ ds)))

-- An object with the parts of which something is written. Its members are in the order of the bytes
-- of their names.
abbrev pub said : JsonKey → Option Data → Members → Members
said k None ms = ms
said k (Some d) ms = put (camel k) d ms

abbrev pub members_after : Members → List (JsonKey × Option Data) → Members
members_after ms [] = ms
members_after ms (part ∷ parts) = members_after (said part.0 part.1 ms) parts

abbrev pub object_of : List (JsonKey × Option Data) → Data
object_of parts = object (members_after no_members parts)

abbrev pub response_parts : WorkResponse → List (JsonKey × Option Data)
response_parts m =
    (key.ExitCode, number_data m.exit_code)
    ∷ (key.Output, text_data m.output)
    ∷ (key.RequestId, number_data m.request_id)
    ∷ (key.WasCancelled, flag_data m.was_cancelled)
    ∷ []

abbrev pub input_parts : Input → List (JsonKey × Option Data)
input_parts m = (key.Path, text_data m.path) ∷ (key.Digest, digest_data m.digest) ∷ []

abbrev pub input_data : Input → Data
input_data m = object_of (input_parts m)

abbrev pub request_parts : WorkRequest → List (JsonKey × Option Data)
request_parts m =
    (key.Arguments, array_data (map string m.arguments))
    ∷ (key.Inputs, array_data (map input_data m.inputs))
    ∷ (key.RequestId, number_data m.request_id)
    ∷ (key.Cancel, flag_data m.cancel)
    ∷ (key.Verbosity, number_data m.verbosity)
    ∷ (key.SandboxDir, text_data m.sandbox_dir)
    ∷ []

abbrev pub response_data : WorkResponse → Data
response_data m = object_of (response_parts m)

abbrev pub request_data : WorkRequest → Data
request_data m = object_of (request_parts m)

-- the line of a message, without its line feed
unfoldable pub response_text : WorkResponse → List ℕ
response_text m = compact_text (response_data m)

unfoldable pub request_text : WorkRequest → List ℕ
request_text m = compact_text (request_data m)
