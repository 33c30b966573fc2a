-- What a line is: the message, or its first fault in the order of the field numbers.
use Rattle.std.specs.Prelude.{ℕ, ℤ, Bool, if◌then◌else◌, List, [], is_some, Result, Ok, Err}
use Rattle.serde_json.specs.Data.{Data}
use Rattle.serde_json.specs.Find.{as_object}
use Rattle.wire_messages.specs.declared.fault.JsonKey.TheVariants as key
use Rattle.wire_messages.specs.declared.fault.MessageFault.{MessageFault}
use Rattle.wire_messages.specs.declared.fault.MessageFault.TheVariants as fault
use Rattle.wire_messages.specs.declared.input.Input.{Input}
use Rattle.wire_messages.specs.declared.request.WorkRequest.{WorkRequest}
use Rattle.wire_messages.specs.declared.response.WorkResponse.{WorkResponse}
use Rattle.json_messages.specs.Answers.{and_then}
use Rattle.json_messages.specs.Keys.{value_at}
use Rattle.json_messages.specs.Top.{object_in}
use Rattle.json_messages.specs.Values.{default_or, digest_at, flag_at, list_in, number_at, text_at, texts_at}

abbrev pub response_in : Data → Result WorkResponse MessageFault
response_in d =
    and_then (number_at key.ExitCode d) (λ exit_code.
    and_then (text_at key.Output d) (λ output.
    and_then (number_at key.RequestId d) (λ request_id.
    and_then (flag_at key.WasCancelled d) (λ was_cancelled.
    Ok (record {
      exit_code = exit_code;
      output = output;
      request_id = request_id;
      was_cancelled =
          was_cancelled;
    })))))

-- the response that a line is, or its first fault
abbrev pub response_of : List ℕ → Result WorkResponse MessageFault
response_of line = and_then (object_in line) response_in

abbrev pub input_in : Data → Result Input MessageFault
input_in d =
    if is_some (as_object d)
    then and_then (text_at key.Path d)
    (λ path. and_then (digest_at d) (λ digest. Ok (record { path = path; digest = digest })))
    else Err (fault.WrongKind key.Inputs)

abbrev pub inputs_at : Data → Result (List Input) MessageFault
inputs_at d = default_or [] (list_in key.Inputs input_in) (value_at key.Inputs d)

abbrev pub request_in : Data → Result WorkRequest MessageFault
request_in d =
    and_then (texts_at key.Arguments d) (λ arguments.
    and_then (inputs_at d) (λ inputs.
    and_then (number_at key.RequestId d) (λ request_id.
    and_then (flag_at key.Cancel d) (λ cancel.
    and_then (number_at key.Verbosity d) (λ verbosity.
    and_then (text_at key.SandboxDir d) (λ sandbox_dir.
    Ok (record {
      arguments = arguments;
      inputs = inputs;
      request_id = request_id;
      cancel = cancel;
      verbosity = verbosity;
      sandbox_dir = sandbox_dir;
    })))))))

-- the request that a line is, or its first fault
abbrev pub request_of : List ℕ → Result WorkRequest MessageFault
request_of line = and_then (object_in line) request_in
