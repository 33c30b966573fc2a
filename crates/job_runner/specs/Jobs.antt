-- What is asked for a job.
use Rattle.std.specs.Prelude.{ℕ, ℤ, List, ◌∷◌, ◌++◌, map, codes, Bool, ◌||◌, ◌&&◌, is_some, Option}
use Rattle.std.specs.Prelude.{option_map, Result, Ok, Err}
use Rattle.std.specs.List.{filter_map, list_any}
use Rattle.std.specs.Ordering.{int_eq}
use Rattle.std.specs.Fmt.{signed_decimal}
use Rattle.plain_values.specs.declared.no_memory.NoMemory.{NoMemory}
use Rattle.outside.specs.declared.answers.Io.{Io}
use Rattle.outside.specs.declared.answers.Io.TheVariants as io
use Rattle.remote_messages.specs.declared.file.NamedFile.{NamedFile}
use Rattle.remote_messages.specs.declared.job.Job.{Job}
use Rattle.path_rules.specs.Paths.{path_fault}
use Rattle.sandbox_rooms.specs.Rooms.{folder_of}
use Rattle.job_runner.specs.Calls.{Asked, Put, Folder, Run, Get, Way, Whole, Stopped, Cut}
use Rattle.job_runner.specs.Calls.{cannot_write}

-- the folder of a job
abbrev pub job_folder : ℤ → List ℕ
job_folder id = codes "job" ++ signed_decimal id

-- a path of the job, as it stands in the shop
abbrev pub in_folder : List ℕ → List ℕ → List ℕ
in_folder folder path = folder ++ 47 ∷ path

abbrev pub put_ask : List ℕ → NamedFile → Asked
put_ask folder input = Put (in_folder folder input.path) input.content

-- the folder of an output that is to stand in one
abbrev pub folder_ask : List ℕ → List ℕ → Option Asked
folder_ask folder output = option_map (λ part. Folder (in_folder folder part)) (folder_of output)

abbrev pub folder_asks : List ℕ → List (List ℕ) → List Asked
folder_asks folder outputs = filter_map (folder_ask folder) outputs

-- the inputs are put, and the outputs' folders are made, in order
abbrev pub fill_asks : List ℕ → Job → List Asked
fill_asks folder job = map (put_ask folder) job.inputs ++ folder_asks folder job.outputs

abbrev pub run_ask : List ℕ → Job → Asked
run_ask folder job = Run folder job.arguments job.env

abbrev pub get_ask : List ℕ → List ℕ → Asked
get_ask folder output = Get (in_folder folder output)

abbrev pub get_asks : List ℕ → List (List ℕ) → List Asked
get_asks folder outputs = map (get_ask folder) outputs

-- then the words are run, and the outputs looked at
abbrev pub asks_in : List ℕ → Job → List Asked
asks_in folder job = fill_asks folder job ++ run_ask folder job ∷ get_asks folder job.outputs

-- what is asked for a job that is run
abbrev pub job_asks : Job → List Asked
job_asks job = asks_in (job_folder job.id) job

abbrev pub fill_way : Result Io NoMemory → Way
fill_way (Ok io.Done) = Whole
fill_way (Ok io.Failed) = Stopped cannot_write
fill_way (Err e) = Cut

-- ---- jobs that are not run

abbrev pub is_bad_path : List ℕ → Bool
is_bad_path path = is_some (path_fault path)

abbrev pub has_bad_input : List NamedFile → Bool
has_bad_input inputs = list_any (λ input. is_bad_path input.path) inputs

-- a file would be read or written by a path that may lead out of the job's folder
abbrev pub has_bad_path : Job → Bool
has_bad_path job = has_bad_input job.inputs || list_any is_bad_path job.outputs

-- a cancelling job with its number stands behind it
abbrev pub is_given_up : ℤ → List Job → Bool
is_given_up id behind = list_any (λ (later : Job). later.cancel && int_eq later.id id) behind
