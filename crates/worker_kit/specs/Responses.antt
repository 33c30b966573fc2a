-- What is said to requests.
use Rattle.std.specs.Prelude.{◌≡◌, ℕ, ℤ, pos, Bool, true, false, List, []}
use Rattle.wire_fields.specs.Spelling.{delimited}
use Rattle.wire_messages.specs.declared.request.WorkRequest.{WorkRequest}
use Rattle.wire_messages.specs.declared.response.WorkResponse.{WorkResponse}
use Rattle.wire_messages.specs.Response.{response_spelling}
use Rattle.worker_kit.specs.declared.handler.Handled.{Handled}

abbrev pub number_of : WorkRequest → ℤ
number_of m = m.request_id

abbrev pub cancels_in : WorkRequest → Bool
cancels_in m = m.cancel

abbrev pub response_of : WorkRequest → Handled → WorkResponse
response_of m o = record {
  exit_code = o.exit;
  output = o.output;
  request_id = m.request_id;
  was_cancelled = false;
}

abbrev pub cancelled_response : ℤ → WorkResponse
cancelled_response n =
    record { exit_code = pos 0; output = []; request_id = n; was_cancelled = true }

-- The response is what the request was answered, under its number, by a handler that hasn't stopped;
-- or the request was cancelled, and the response says so.
abbrev pub Says : (WorkRequest → Handled → Type 0) → WorkRequest → Bool → WorkResponse → Type 0
Says answers m true r = r ≡ cancelled_response m.request_id
Says answers m false r =
    (o : Handled) × answers m o × (o.stopped ≡ false) × (r ≡ response_of m o)

-- the handler before and after, where this response is of what it has made of the request
abbrev pub Makes : {H : Type 0} → (H → WorkRequest → Handled → H → Type 0) → H → WorkRequest
    → WorkResponse → H → Type 0
Makes does old m r new = (o : Handled) × does old m o new × (r ≡ response_of m o)

-- the bytes of a response behind their length
abbrev pub framed : WorkResponse → List ℕ
framed r = delimited (response_spelling r)
