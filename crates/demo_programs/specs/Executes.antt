-- What the executor does from its start to its end.
use Rattle.std.specs.Prelude.{◌≡◌, ℕ, ℤ, List, [], ◌∷◌, ◌++◌, if◌then◌else◌, map, Some}
use Rattle.std.specs.List.{flat_map}
use Rattle.outside.specs.Lists.{Adds}
use Rattle.delimited_framing.specs.Frame.{delimited_form}
use Rattle.remote_messages.specs.declared.job.Job.{Job}
use Rattle.remote_messages.specs.declared.job_result.JobResult.{JobResult}
use Rattle.remote_messages.specs.Job.{SpellsJob}
use Rattle.message_service.specs.declared.finish.Finish.{Finish}
use Rattle.message_service.specs.declared.finish.Finish.TheVariants as finish
use Rattle.message_service.specs.Ends.{PutsBy}
use Rattle.message_service.specs.Serves.{Outside, ReadsBy, Serves}
use Rattle.job_runner.specs.Results.{greeting}
use Rattle.job_runner.specs.Answers.{framed, Answers}

-- The bytes taken are frames that spell jobs. What was put is the greeting and then, job by job in
-- order, the results that the shop's answers give, and its log is the calls for these jobs. A job
-- is given up exactly where a cancelling job of its number had been read behind it by its turn.
abbrev pub Executes : Finish → Outside → Outside → Type 0
Executes f old new = Serves delimited_form SpellsJob Answers f (framed greeting) old new

-- the numbers of the jobs that are to be answered, which are all but the cancelling ones
abbrev pub numbers_asked : List Job → List ℤ
numbers_asked jobs = flat_map (λ job. if job.cancel then [] else job.id ∷ []) jobs

-- All of these are answered; or where memory ran out or putting failed, the first of them.
abbrev pub NumberedBy : Finish → List ℤ → List ℤ → Type 0
NumberedBy finish.AtEnd answered asked = answered ≡ asked
NumberedBy finish.BadInput answered asked = answered ≡ asked
NumberedBy finish.InputFault answered asked = answered ≡ asked
NumberedBy finish.TooLong answered asked = answered ≡ asked
NumberedBy finish.NoMemory answered asked = (rest : List ℤ) × (asked ≡ answered ++ rest)
NumberedBy finish.OutputFault answered asked = (rest : List ℤ) × (asked ≡ answered ++ rest)

-- What was put is the greeting, and then one result for each job of the bytes taken that isn't a
-- cancelling one, in order and with its number.
pub record AnswersInOrder (f : Finish) (old new : Outside) : Type 0 where
  pub bytes : List ℕ
  pub jobs : List Job
  pub results : List JobResult
  pub taken : Adds bytes old.input.taken new.input.taken
  pub reads : ReadsBy delimited_form SpellsJob f bytes jobs
  pub put : PutsBy (Some f) (framed greeting ++ flat_map framed results) old.out new.out
  pub numbered : NumberedBy f (map (λ r. r.id) results) (numbers_asked jobs)
