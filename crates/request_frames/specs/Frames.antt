-- The bytes that are due for an order, by what its line speaks.
use Rattle.std.specs.Prelude.{ℕ, ℤ, List, [], ◌∷◌, ◌++◌, length, ltb, if◌then◌else◌}
use Rattle.run_plan.specs.declared.plan.Speech.{Speech}
use Rattle.run_plan.specs.declared.plan.Speech.TheVariants as speech
use Rattle.wire_fields.specs.Message.{largest}
use Rattle.wire_fields.specs.Spelling.{delimited}
use Rattle.wire_messages.specs.Request.{request_spelling}
use Rattle.json_messages.specs.Writing.{request_text}
use Rattle.wire_messages.specs.declared.request.WorkRequest.{WorkRequest}
use Rattle.remote_messages.specs.declared.job.Job.{Job}
use Rattle.remote_messages.specs.Job.{job_spelling}
use Rattle.remote_branch.specs.Jobs.{cancel_for}
use Rattle.request_frames.specs.declared.frames.Due.{Due}
use Rattle.request_frames.specs.declared.frames.Due.TheVariants as due
use Rattle.request_frames.specs.Requests.{cancelling}

-- a request behind its length
abbrev pub framed_request : WorkRequest → List ℕ
framed_request request = delimited (request_spelling request)

-- a request as JSON, with its line feed
abbrev pub request_line : WorkRequest → List ℕ
request_line request = request_text request ++ 10 ∷ []

-- a job behind its length
abbrev pub framed_job : Job → List ℕ
framed_job job = delimited (job_spelling job)

-- a job that is longer is not written
abbrev pub due_job : Job → Due
due_job job =
    if ltb largest (length (job_spelling job)) then due.TooLarge else due.Frame (framed_job job)

-- What is due for a Send: the request on a local line, in the form that the line speaks, and the
-- job on the executor's.
abbrev pub send_due : Speech → WorkRequest → Job → Due
send_due speech.Proto request job = due.Frame (framed_request request)
send_due speech.Json request job = due.Frame (request_line request)
send_due speech.Remote request job = due_job job

-- for a Cancel of the request, or the job, with this number
abbrev pub cancel_due : Speech → ℤ → List ℕ
cancel_due speech.Proto number = framed_request (cancelling number)
cancel_due speech.Json number = request_line (cancelling number)
cancel_due speech.Remote number = framed_job (cancel_for number)
