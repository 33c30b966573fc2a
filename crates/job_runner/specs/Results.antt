-- The results of jobs.
use Rattle.std.specs.Prelude.{◌≡◌, ◌⊎◌, ℕ, ℤ, pos, List, [], ◌∷◌, ◌++◌, true, false, if◌then◌else◌}
use Rattle.std.specs.Prelude.{codes, length, ltb}
use Rattle.std.specs.Prelude.{Option, Some, None, Result, Ok, Err}
use Rattle.std.specs.Str.{is_utf8}
use Rattle.plain_values.specs.declared.no_memory.NoMemory.{NoMemory}
use Rattle.outside.specs.declared.answers.Read.TheVariants as read
use Rattle.outside.specs.declared.shop.JobEnd.TheVariants as end
use Rattle.outside.specs.declared.shop.ShopCall.{ShopCall}
use Rattle.outside.specs.declared.shop.ShopCall.TheVariants as call
use Rattle.remote_messages.specs.declared.file.NamedFile.{NamedFile}
use Rattle.remote_messages.specs.declared.job.Job.{Job}
use Rattle.remote_messages.specs.declared.job_result.JobResult.{JobResult}
use Rattle.remote_messages.specs.JobResult.{job_result_spelling}
use Rattle.job_runner.specs.Calls.{Asked, WentWell, StopsAt, Starts, cannot_read}
use Rattle.job_runner.specs.Jobs.{job_folder, fill_asks, get_asks, asks_in}

-- a result of this number that says nothing else
abbrev pub empty_result : ℤ → JobResult
empty_result id = record {
  id = id;
  exit_code = pos 0;
  text = [];
  files = [];
  refusal = [];
  cancelled = false;
  more = false;
  version = pos 0;
}

abbrev pub refused : ℤ → List ℕ → JobResult
refused id why = record (empty_result id) { refusal = why }

abbrev pub given_up : ℤ → JobResult
given_up id = record (empty_result id) { cancelled = true }

-- the executor's first message, which says that it understands version 2
abbrev pub greeting : JobResult
greeting = record (empty_result (pos 0)) { version = pos 2 }

-- what a command printed, where that is text
abbrev pub text_of : List ℕ → List ℕ
text_of output = if is_utf8 output then output else []

-- the outputs that were found by these looks, one for each, under their paths
abbrev pub files_found : List (List ℕ) → List ShopCall → List NamedFile
files_found (o ∷ outputs) (call.Get path (read.Found bytes) ∷ looks) =
    record { path = o; content = bytes } ∷ files_found outputs looks
files_found (o ∷ outputs) (_ ∷ looks) = files_found outputs looks
files_found _ _ = []

abbrev pub ran : ℤ → ℤ → List ℕ → List NamedFile → JobResult
ran id code output files =
    record (empty_result id) { exit_code = code; text = text_of output; files = files }

-- The folder was filled, the words were run there to this end, and the outputs were looked at.
pub record RanIn (folder : List ℕ) (job : Job) (calls : List ShopCall) (r : JobResult)
    : Type 0 where
  pub writes : List ShopCall
  pub looks : List ShopCall
  pub code : ℤ
  pub output : List ℕ
  pub all : calls ≡ writes ++ call.Run folder job.arguments job.env (end.Exit code output) ∷ looks
  pub filled : WentWell (fill_asks folder job) writes []
  pub looked : WentWell (get_asks folder job.outputs) looks []
  pub result : r ≡ ran job.id code output (files_found job.outputs looks)

-- or one of the calls didn't go well, and nothing more was asked
pub record RefusedIn (folder : List ℕ) (job : Job) (calls : List ShopCall) (r : JobResult)
    : Type 0 where
  pub why : List ℕ
  pub stops : StopsAt why (asks_in folder job) calls
  pub result : r ≡ refused job.id why

-- the calls of a job that is run in this folder, by what came of it
abbrev pub ComesIn : List ℕ → Job → Result JobResult NoMemory → List ShopCall → Type 0
ComesIn folder job (Ok r) calls = RanIn folder job calls r ⊎ RefusedIn folder job calls r
ComesIn folder job (Err e) calls = Starts (asks_in folder job) calls

-- the same, in the job's own folder
abbrev pub ComesWhole : Job → Result JobResult NoMemory → List ShopCall → Type 0
ComesWhole job result calls = ComesIn (job_folder job.id) job result calls

-- the most bytes that the message of a result may have
abbrev pub most_bytes : ℕ
most_bytes = 67108864

unfoldable pub too_large : List ℕ
too_large = codes "too large"

-- what is answered to the job with this number: where its result's message would have more bytes, it is refused instead
abbrev pub bounded : ℤ → JobResult → JobResult
bounded id r = if ltb most_bytes (length (job_result_spelling r)) then refused id too_large else r

-- The calls of a job that is run, by what is answered to it.
abbrev pub Comes : Job → Result JobResult NoMemory → List ShopCall → Type 0
Comes job (Ok r) calls = (whole : JobResult) × ComesWhole job (Ok whole) calls × (r ≡ bounded job.id whole)
Comes job (Err e) calls = Starts (asks_in (job_folder job.id) job) calls

-- the same, where these calls come behind those by which the folder was filled
abbrev pub ComesBehind : List ℕ → Job → Result JobResult NoMemory → List ShopCall → Type 0
ComesBehind folder job result calls = (writes : List ShopCall)
    → WentWell (fill_asks folder job) writes [] → ComesIn folder job result (writes ++ calls)

-- what was found by looking at the outputs, or a look failed
abbrev pub Collects : List ℕ → List (List ℕ) → Result (Option (List NamedFile)) NoMemory
    → List ShopCall → Type 0
Collects folder outputs (Ok (Some files)) looks =
    WentWell (get_asks folder outputs) looks [] × (files ≡ files_found outputs looks)
Collects folder outputs (Ok None) looks = StopsAt cannot_read (get_asks folder outputs) looks
Collects folder outputs (Err e) looks =
    (rest : List Asked) × WentWell (get_asks folder outputs) looks rest
