-- What a child does that does at once what it is asked.
use Rattle.std.specs.Prelude.{ℕ, List, [], ◌∷◌, ◌++◌, Option, Some, None, false, map, pos, if◌then◌else◌}
use Rattle.remote_messages.specs.declared.file.NamedFile.{NamedFile}
use Rattle.remote_messages.specs.declared.job.Job.{Job}
use Rattle.remote_messages.specs.declared.job_result.JobResult.{JobResult}
use Rattle.wire_messages.specs.declared.request.WorkRequest.{WorkRequest}
use Rattle.wire_messages.specs.declared.response.WorkResponse.{WorkResponse}

-- its answer to a request: none where that is a cancel request
abbrev pub response_to : WorkRequest → Option WorkResponse
response_to request = if request.cancel then None else Some (record {
  exit_code = pos 0;
  output = [];
  request_id = request.request_id;
  was_cancelled = false;
})

-- the bytes of an output: its path and a line feed
abbrev pub made_content : List ℕ → List ℕ
made_content path = path ++ 10 ∷ []

abbrev pub made_file : List ℕ → NamedFile
made_file path = record { path = path; content = made_content path }

-- its answer to a job: none where that is a cancelling one
abbrev pub result_to : Job → Option JobResult
result_to job = if job.cancel then None else Some (record {
  id = job.id;
  exit_code = pos 0;
  text = [];
  files = map made_file job.outputs;
  refusal = [];
  cancelled = false;
  more = false;
  version = pos 0;
})

-- where an output is left: in the folder that the request names, where it names one
abbrev pub under : List ℕ → List ℕ → List ℕ
under [] path = path
under (byte ∷ folder) path = (byte ∷ folder) ++ 47 ∷ path
