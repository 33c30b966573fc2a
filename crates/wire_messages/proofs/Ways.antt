-- Any bytes are read as a request, or as a response, in one way.
use Rattle.std.proofs.Common.{◌⊎◌, List, refl, inl, inr}
use Rattle.wire_fields.specs.Field.{WireField}
use Rattle.wire_fields.specs.Message.{IsSound, last_int32, last_bool, last_bytes, spans, RefusesText, RefusesMessage}
use Rattle.wire_fields.specs.Readings.{IsReadOneWay}
use Rattle.wire_fields.proofs.Readings.{IsTold, read_one_way, told_or, told_text, told_message, spans_spelled}
use Rattle.wire_messages.specs.declared.input.Input.{Input}
use Rattle.wire_messages.specs.declared.request.WorkRequest.{WorkRequest}
use Rattle.wire_messages.specs.declared.response.WorkResponse.{WorkResponse}
use Rattle.wire_messages.specs.Input.{IsInput, input_refuses, FaultyInput}
use Rattle.wire_messages.specs.Request.{IsRequest, request_refuses}
use Rattle.wire_messages.specs.Response.{IsResponse, response_refuses}
use Rattle.wire_messages.specs.InputLaws.{one_input, one_input_fault}
use Rattle.wire_messages.specs.RequestLaws.{one_request, one_request_fault}
use Rattle.wire_messages.specs.ResponseLaws.{one_response, one_response_fault}

response_told : (f : WireField) → IsTold (response_refuses f)
response_told f = told_text 2 f

some_response : (fs : List WireField) → IsSound response_refuses fs → (m : WorkResponse) × IsResponse fs m
some_response fs sound = (
  record { exit_code = last_int32 1 fs; output = last_bytes 2 fs; request_id = last_int32 3 fs; was_cancelled = last_bool 4 fs },
  record { exit_code = refl; output = refl; request_id = refl; was_cancelled = refl },
)

pub response_way : IsReadOneWay response_refuses IsResponse
response_way = read_one_way response_refuses IsResponse response_told some_response one_response one_response_fault

input_told : (f : WireField) → IsTold (input_refuses f)
input_told f = told_text 1 f

some_input : (fs : List WireField) → IsSound input_refuses fs → (m : Input) × IsInput fs m
some_input fs sound = (record { path = last_bytes 1 fs; digest = last_bytes 2 fs }, record { path = refl; digest = refl })

input_way : IsReadOneWay input_refuses IsInput
input_way = read_one_way input_refuses IsInput input_told some_input one_input one_input_fault

request_told : (f : WireField) → IsTold (request_refuses f)
request_told f =
    told_or (RefusesText 1 f) (λ x. RefusesMessage FaultyInput 2 f x ⊎ RefusesText 6 f x) (told_text 1 f)
    (told_or (RefusesMessage FaultyInput 2 f) (RefusesText 6 f) (told_message input_refuses IsInput input_way 2 f) (told_text 6 f))

some_request : (fs : List WireField) → IsSound request_refuses fs → (m : WorkRequest) × IsRequest fs m
some_request fs sound =
    let inputs = spans_spelled input_refuses IsInput input_way request_refuses 2 (λ f x r. inr (inl r)) fs sound in (
      record { arguments = spans 1 fs; inputs = inputs.0; request_id = last_int32 3 fs; cancel = last_bool 4 fs; verbosity = last_int32 5 fs; sandbox_dir = last_bytes 6 fs },
      record { arguments = refl; inputs = inputs.1; request_id = refl; cancel = refl; verbosity = refl; sandbox_dir = refl },
    )

pub request_way : IsReadOneWay request_refuses IsRequest
request_way = read_one_way request_refuses IsRequest request_told some_request one_request one_request_fault
