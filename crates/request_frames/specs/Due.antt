-- The request, or the job, of work that is due.
use Rattle.std.specs.Prelude.{Bool}
use Rattle.wire_messages.specs.declared.request.WorkRequest.{WorkRequest}
use Rattle.remote_messages.specs.declared.job.Job.{Job}
use Rattle.remote_branch.specs.Jobs.{job_for}
use Rattle.sandbox_rooms.specs.declared.room.Room.{Room}
use Rattle.request_frames.specs.declared.requests.DueWork.{DueWork}
use Rattle.request_frames.specs.Requests.{request_for}

abbrev pub request_due : DueWork → Bool → Room → WorkRequest
request_due work verbose room =
    request_for work.number work.action.now work.inputs.now verbose room

abbrev pub job_due : DueWork → Job
job_due work = job_for work.number work.action.now work.inputs.now
