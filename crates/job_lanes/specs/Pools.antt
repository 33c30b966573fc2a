-- What the executor that runs jobs side by side does from its start to its end.
use Rattle.std.specs.Prelude.{◌≡◌, ℕ, ℤ, Bool, true, false, List, [], if◌then◌else◌, Err}
use Rattle.outside.specs.Told.{ShopTold}
use Rattle.outside.specs.declared.shop.ShopCall.{ShopCall}
use Rattle.delimited_framing.specs.Frame.{delimited_form}
use Rattle.remote_messages.specs.declared.job.Job.{Job}
use Rattle.remote_messages.specs.declared.job_result.JobResult.{JobResult}
use Rattle.remote_messages.specs.Job.{SpellsJob}
use Rattle.message_service.specs.declared.finish.Finish.{Finish}
use Rattle.message_service.specs.Calls.{Made}
use Rattle.job_runner.specs.declared.fate.Fate.{Fate}
use Rattle.job_runner.specs.declared.fate.Fate.TheVariants as fate
use Rattle.job_runner.specs.Jobs.{has_bad_path}
use Rattle.job_runner.specs.Results.{given_up, greeting, Comes}
use Rattle.job_runner.specs.Answers.{ResultFor, framed}
use Rattle.work_lanes.specs.Serves.{Outside, ServesBy}
use Rattle.job_lanes.specs.declared.lane.JobLane.{JobLane}

abbrev pub number_of : Job → ℤ
number_of job = job.id

abbrev pub cancels_in : Job → Bool
cancels_in job = job.cancel

-- what is done with a job that isn't given up
abbrev pub fate_alone : Job → Fate
fate_alone job = if has_bad_path job then fate.BadPath else fate.Runs

-- The result of such a job, and the calls that were made for it, which are those for a job that has
-- this result. They stand at the end of the shop's log.
pub record HasDone (job : Job) (r : JobResult) (old new : ShopTold) : Type 0 where
  pub id : r.id ≡ job.id
  pub kept : r.cancelled ≡ false
  pub calls : List ShopCall
  pub comes : ResultFor (fate_alone job) job calls r
  pub made : Made calls old new

-- the calls of a job in which memory has run out: some of the first that are due, or none
abbrev pub Begins : Fate → Job → List ShopCall → Type 0
Begins fate.Runs job calls = Comes job (Err (record {})) calls
Begins fate.BadPath job calls = calls ≡ []
Begins fate.GivenUp job calls = calls ≡ []
Begins fate.Cancels job calls = calls ≡ []

-- They stand at the end of the shop's log.
pub record HasBrokenOff (job : Job) (old new : ShopTold) : Type 0 where
  pub calls : List ShopCall
  pub begins : Begins (fate_alone job) job calls
  pub made : Made calls old new

-- so many jobs may wait
abbrev pub depth : ℕ
depth = 1024

module _ {S : Type 0} (told : S → ShopTold) where
  -- a lane's shop before and after a job with this result, or one in which memory has run out
  abbrev pub DoesJob : JobLane S → Job → JobResult → JobLane S → Type 0
  DoesJob old job r new = HasDone job r (told old.shop) (told new.shop)

  abbrev pub BreaksJob : JobLane S → Job → JobLane S → Type 0
  BreaksJob old job new = HasBrokenOff job (told old.shop) (told new.shop)

  -- The result of a job that was given up says so, and nothing else. Any other was done between two
  -- moments of a shop.
  abbrev pub SaysJob : Job → Bool → JobResult → Type 0
  SaysJob job true r = r ≡ given_up job.id
  SaysJob job false r = (old : S) × (new : S) × HasDone job r (told old) (told new)

  -- The bytes taken are frames that spell jobs. What was put is what had been, and then results, each
  -- whole, one after another: each said to the job at its place, under its number. Each lane has done
  -- the jobs that it took in its shop, in order, each once, and nothing else. No more waited than the
  -- depth and the jobs of one read.
  abbrev pub DoesJobs : Finish → List ℕ → List (JobLane S) → List (JobLane S) → Outside → Outside
      → Type 0
  DoesJobs f before lanes left old new = ServesBy number_of cancels_in SaysJob framed delimited_form
      SpellsJob DoesJob BreaksJob depth f before lanes left old new

  -- so, behind the greeting
  abbrev pub Pools : Finish → List (JobLane S) → List (JobLane S) → Outside → Outside → Type 0
  Pools f lanes left old new = DoesJobs f (framed greeting) lanes left old new
