-- What is answered to a job, before these others.
use Rattle.std.specs.Prelude.{◌≡◌, ℕ, List, [], if◌then◌else◌, true, false}
use Rattle.std.specs.Prelude.{Option, Some, None, Result, Ok, Err}
use Rattle.plain_values.specs.declared.no_memory.NoMemory.{NoMemory}
use Rattle.outside.specs.declared.shop.ShopCall.{ShopCall}
use Rattle.wire_fields.specs.Spelling.{delimited}
use Rattle.remote_messages.specs.declared.job.Job.{Job}
use Rattle.remote_messages.specs.declared.job_result.JobResult.{JobResult}
use Rattle.remote_messages.specs.JobResult.{job_result_spelling}
use Rattle.job_runner.specs.declared.fate.Fate.{Fate}
use Rattle.job_runner.specs.declared.fate.Fate.TheVariants as fate
use Rattle.job_runner.specs.Calls.{Starts, bad_path}
use Rattle.job_runner.specs.Jobs.{job_asks, has_bad_path, is_given_up}
use Rattle.job_runner.specs.Results.{refused, given_up, Comes}

-- what is done with a job before these others
abbrev pub fate_of : Job → List Job → Fate
fate_of job behind =
    if job.cancel then fate.Cancels
    else if is_given_up job.id behind then fate.GivenUp
    else if has_bad_path job then fate.BadPath
    else fate.Runs

abbrev pub framed : JobResult → List ℕ
framed r = delimited (job_result_spelling r)

-- The result that is put for a job with this fate.
abbrev pub ResultFor : Fate → Job → List ShopCall → JobResult → Type 0
ResultFor fate.Cancels job calls r = ⊥
ResultFor fate.GivenUp job calls r = (calls ≡ []) × (r ≡ given_up job.id)
ResultFor fate.BadPath job calls r = (calls ≡ []) × (r ≡ refused job.id bad_path)
ResultFor fate.Runs job calls r = Comes job (Ok r) calls

-- Where memory ran out nothing was asked, or the first of what is asked for a job that is run.
abbrev pub BegunFor : Fate → Job → List ShopCall → Type 0
BegunFor fate.Cancels job calls = ⊥
BegunFor fate.GivenUp job calls = calls ≡ []
BegunFor fate.BadPath job calls = calls ≡ []
BegunFor fate.Runs job calls = Starts (job_asks job) calls

abbrev pub Answers : Job → List Job → List ShopCall → Result (Option (List ℕ)) NoMemory → Type 0
Answers job behind calls (Ok None) = (fate_of job behind ≡ fate.Cancels) × (calls ≡ [])
Answers job behind calls (Ok (Some bytes)) =
    (r : JobResult) × ResultFor (fate_of job behind) job calls r × (bytes ≡ framed r)
Answers job behind calls (Err e) = BegunFor (fate_of job behind) job calls

-- A reply is one result with the job's number. It says that the job was given up exactly where a
-- cancelling job with that number had been read behind it, and then no call was made for it.
abbrev pub IsReplyTo : Job → List Job → List ShopCall → JobResult → Type 0
IsReplyTo job behind calls r = (r.id ≡ job.id) × (r.cancelled ≡ is_given_up job.id behind)
    × (r.cancelled ≡ true → calls ≡ [])

-- a cancelling job has none
abbrev pub FitsReply : Job → List Job → List ShopCall → Option (List ℕ) → Type 0
FitsReply job behind calls None = job.cancel ≡ true
FitsReply job behind calls (Some bytes) =
    (job.cancel ≡ false) × (r : JobResult) × (bytes ≡ framed r) × IsReplyTo job behind calls r

-- what is said of replies holds of all that are answers
abbrev pub RepliesFit : Type 0
RepliesFit = (job : Job) (behind : List Job) (calls : List ShopCall) (reply : Option (List ℕ))
    → Answers job behind calls (Ok reply) → FitsReply job behind calls reply
