-- What a job comes to, behind the calls by which its folder was filled.
use Rattle.std.proofs.Common.{◌≡◌, ℕ, ℤ, List, [], ◌∷◌, ◌++◌, Some, Result, refl, subst, sym, ◌∙◌}
use Rattle.std.proofs.Common.{ap, inl, inr, true, ◌≤◌}
use Rattle.std.specs.Prelude.{Ok, Err, IfOk}
use Rattle.plain_values.specs.declared.no_memory.NoMemory.{NoMemory}
use Rattle.outside.specs.Told.{ShopTold}
use Rattle.outside.specs.declared.shop.JobEnd.{JobEnd}
use Rattle.outside.specs.declared.shop.JobEnd.TheVariants as end
use Rattle.outside.specs.declared.shop.ShopCall.{ShopCall}
use Rattle.outside.specs.declared.shop.ShopCall.TheVariants as call
use Rattle.remote_messages.specs.declared.file.NamedFile.{NamedFile}
use Rattle.remote_messages.specs.declared.job.Job.{Job}
use Rattle.remote_messages.specs.declared.job_result.JobResult.{JobResult}
use Rattle.outside.specs.Causes.{Counts}
use Rattle.outside.specs.Lists.{Adds}
use Rattle.plain_values.specs.declared.command.Variable.{Variable}
use Rattle.message_service.specs.Calls.{Made, has_failed, run_failed}
use Rattle.message_service.proofs.Made.{made_on, made_nothing}
use Rattle.job_runner.specs.Calls.{Asked, cannot_read, cannot_write, run_refusal, WentWell, StopsAt}
use Rattle.job_runner.specs.Calls.{Starts, Whole, Stopped, Cut, Does}
use Rattle.job_runner.specs.Jobs.{fill_asks, run_ask, get_asks, asks_in, job_folder}
use Rattle.job_runner.specs.Results.{empty_result, text_of, refused, ran, files_found, ComesIn}
use Rattle.job_runner.specs.Results.{ComesBehind, ComesWhole}
use Rattle.job_runner.proofs.Does.{well_then, stops_then, stops_wider, goes_wider, stops_alone}
use Rattle.job_runner.proofs.Does.{made_one, made_still, cc_of}

-- the asks from the run on
abbrev pub asks_from : List ℕ → Job → List Asked
asks_from folder job = run_ask folder job ∷ get_asks folder job.outputs

abbrev pub run_call : List ℕ → Job → JobEnd → ShopCall
run_call folder job e = call.Run folder job.arguments job.env e

-- ---- refused

-- a result that refuses it, or no memory for one
abbrev pub RefusesOr : Job → List ℕ → Result JobResult NoMemory → Type 0
RefusesOr job why r = IfOk r (λ x. x ≡ refused job.id why)

pub refuses_in : (folder : List ℕ) (job : Job) (why : List ℕ) (calls : List ShopCall) (r : Result
    JobResult NoMemory) → StopsAt why (asks_in folder job) calls → RefusesOr job why r
    → ComesIn folder job r calls
refuses_in folder job why calls (Ok r) stops is = inr (record {
  why = why;
  stops = stops;
  result =
      is;
})
refuses_in folder job why calls (Err e) stops is = inr (why, stops)

pub refused_then : (folder : List ℕ) (job : Job) (why : List ℕ) (calls : List ShopCall) (r : Result
    JobResult NoMemory) → StopsAt why (asks_from folder job) calls → RefusesOr job why r
    → ComesBehind folder job r calls
refused_then folder job why calls r stops is = λ writes well. refuses_in folder job why (writes ++
    calls) r (stops_then why (fill_asks folder job) (asks_from folder job) writes calls well stops)
    is

pub begun_then : (folder : List ℕ) (job : Job) (calls : List ShopCall) (e : NoMemory)
    → Starts (asks_from folder job) calls → ComesBehind folder job (Err e) calls
begun_then folder job calls e (inl go) = λ writes well. inl (
  go.0,
  well_then (fill_asks folder job)
      (asks_from folder job) writes calls go.0 well go.1,
)
begun_then folder job calls e (inr stop) = λ writes well. inr (
  stop.0,
  stops_then stop.0 (fill_asks
      folder job) (asks_from folder job) writes calls well stop.1,
)

-- the run itself stopped it
pub run_stops : (folder : List ℕ) (job : Job) (e : JobEnd) (why : List ℕ)
    → run_refusal e ≡ Some why → StopsAt why (asks_from folder job) (run_call folder job e ∷ [])
run_stops folder job e why is = stops_alone why (run_call folder job e) (get_asks folder
    job.outputs) is

-- ---- looks behind a run that ended with an exit code

pub looks_stop : (folder : List ℕ) (job : Job) (code : ℤ) (output : List ℕ) (looks : List ShopCall)
    → StopsAt cannot_read (get_asks folder job.outputs) looks
    → StopsAt cannot_read (asks_from folder job) (run_call folder job (end.Exit code output) ∷
    looks)
looks_stop folder job code output looks stops = stops_then cannot_read (run_ask folder job ∷ [])
    (get_asks folder job.outputs) (run_call folder job (end.Exit code output) ∷ []) looks (
      refl,
      refl,
      refl,
    ) stops

pub looks_begun : (folder : List ℕ) (job : Job) (code : ℤ) (output : List ℕ) (looks : List
    ShopCall) (rest : List Asked) → WentWell (get_asks folder job.outputs) looks rest
    → Starts (asks_from folder job) (run_call folder job (end.Exit code output) ∷ looks)
looks_begun folder job code output looks rest well = inl (rest, (refl, refl, well))

pub ran_then : (folder : List ℕ) (job : Job) (code : ℤ) (output : List ℕ) (files : List NamedFile)
    (looks : List ShopCall) (r : JobResult) → WentWell (get_asks folder job.outputs) looks []
    → files ≡ files_found job.outputs looks → r ≡ ran job.id code output files
    → ComesBehind folder job (Ok r) (run_call folder job (end.Exit code output) ∷ looks)
ran_then folder job code output files looks r well found is = λ writes filled. inl (record {
  writes = writes;
  looks = looks;
  code = code;
  output = output;
  all = refl;
  filled = filled;
  looked = well;
  result = is ∙ ap (λ (fs : List NamedFile). ran job.id code output fs) found;
})

-- ---- from the filling on

pub fill_cut : (folder : List ℕ) (job : Job) (e : NoMemory) (old new : ShopTold)
    → Does Cut (fill_asks folder job) old new → (calls : List ShopCall) × ComesIn folder job (Err
    e) calls × Made calls old new
fill_cut folder job e old new d = (
  d.0,
  inl (goes_wider Cut (fill_asks folder job) (asks_from
      folder job) d.0 tt d.1),
  d.2,
)

pub fill_stops : (folder : List ℕ) (job : Job) (r : Result JobResult NoMemory) (old new : ShopTold)
    → Does (Stopped cannot_write) (fill_asks folder job) old new → RefusesOr job cannot_write r
    → (calls : List ShopCall) × ComesIn folder job r calls × Made calls old new
fill_stops folder job r old new d is = (
  d.0,
  refuses_in folder job cannot_write d.0 r (stops_wider
      cannot_write (fill_asks folder job) (asks_from folder job) d.0 d.1) is,
  d.2,
)

pub fill_whole : (folder : List ℕ) (job : Job) (r : Result JobResult NoMemory) (old mid new :
    ShopTold) → Does Whole (fill_asks folder job) old mid → ((calls : List ShopCall) × ComesBehind
    folder job r calls × Made calls mid new) → (calls : List ShopCall) × ComesIn folder job r calls
    × Made calls old new
fill_whole folder job r old mid new d s = (
  d.0 ++ s.0,
  s.1 d.0 d.1,
  made_on d.0 s.0 old mid new d.2
      s.2,
)

pub nothing_begun : (folder : List ℕ) (job : Job) (e : NoMemory) (told : ShopTold)
    → (calls : List ShopCall) × ComesIn folder job (Err e) calls × Made calls told told
nothing_begun folder job e told = ([], inl (asks_in folder job, refl), made_nothing told)

-- ---- the run and what follows it

abbrev pub Ends : List ℕ → Job → Result JobResult NoMemory → ShopTold → ShopTold → Type 0
Ends folder job r old new = (calls : List ShopCall) × ComesBehind folder job r calls × Made calls
    old new

abbrev FailedSo : JobEnd → Type 0
FailedSo e = ◌≡◌ {A = Result JobEnd NoMemory} (Ok e) (Ok end.Failed)

run_failed_so : (c : ShopCall) (e : JobEnd) → has_failed c ≡ run_failed e → has_failed c ≡ true
    → FailedSo e
run_failed_so c (end.Exit code output) is failed = absurd (cc_of (sym is ∙ failed))
run_failed_so c end.Signal is failed = absurd (cc_of (sym is ∙ failed))
run_failed_so c end.Failed is failed = refl

pub run_made : (folder : List ℕ) (words : List (List ℕ)) (env : List Variable) (job : Job) (e :
    JobEnd) (old new : ShopTold) → words ≡ job.arguments → env ≡ job.env
    → Adds (call.Run folder words env e ∷ []) old.log new.log
    → Counts old.faults new.faults (FailedSo e) → Made (run_call folder job e ∷ []) old new
run_made folder words env job e old new w v log count =
    subst (λ (ws : List (List ℕ)). Made (call.Run folder ws job.env e ∷ []) old new) w
    (subst (λ (vs : List Variable). Made (call.Run folder words vs e ∷ []) old new) v
    (made_one (call.Run folder words env e) (FailedSo e) old new (run_failed_so (call.Run folder
    words env e) e refl) log count))

pub nothing_run : (folder : List ℕ) (job : Job) (e : NoMemory) (old new : ShopTold)
    → new.log ≡ old.log → old.faults ≤ new.faults → Ends folder job (Err e) old new
nothing_run folder job e old new same later = (
  [],
  begun_then folder job [] e (inl (
    asks_from
        folder job,
    refl,
  )),
  made_still old new same later,
)

pub run_ends : (folder : List ℕ) (job : Job) (e : JobEnd) (why : List ℕ) (r : Result JobResult
    NoMemory) (old new : ShopTold) → run_refusal e ≡ Some why → RefusesOr job why r
    → Made (run_call folder job e ∷ []) old new → Ends folder job r old new
run_ends folder job e why r old new is refuses made = (
  run_call folder job e ∷ [],
  refused_then
      folder job why (run_call folder job e ∷ []) r (run_stops folder job e why is) refuses,
  made,
)

module _ (folder : List ℕ) (job : Job) (code : ℤ) (output : List ℕ) (old mid new : ShopTold) (made
    : Made (run_call folder job (end.Exit code output) ∷ []) old mid) where
  abbrev exit_call : List ShopCall
  exit_call = run_call folder job (end.Exit code output) ∷ []

  pub exit_fails : (r : Result JobResult NoMemory) → ((looks : List ShopCall) × StopsAt cannot_read
      (get_asks folder job.outputs) looks × Made looks mid new) → RefusesOr job cannot_read r
      → Ends folder job r old new
  exit_fails r l refuses = (
    run_call folder job (end.Exit code output) ∷ l.0,
    refused_then folder
        job cannot_read (run_call folder job (end.Exit code output) ∷ l.0) r (looks_stop folder job
        code output l.0 l.1) refuses,
    made_on exit_call l.0 old mid new made l.2,
  )

  pub exit_cut : (e : NoMemory) → ((looks : List ShopCall) × ((rest : List Asked) × WentWell
      (get_asks folder job.outputs) looks rest) × Made looks mid new)
      → Ends folder job (Err e) old new
  exit_cut e l = (
    run_call folder job (end.Exit code output) ∷ l.0,
    begun_then folder job (run_call
        folder job (end.Exit code output) ∷ l.0) e (looks_begun folder job code output l.0 l.1.0
        l.1.1),
    made_on exit_call l.0 old mid new made l.2,
  )

  pub exit_whole : (files : List NamedFile) (r : JobResult) → ((looks : List ShopCall) × (WentWell
      (get_asks folder job.outputs) looks [] × (files ≡ files_found job.outputs looks)) × Made
      looks mid new) → r ≡ ran job.id code output files → Ends folder job (Ok r) old new
  exit_whole files r l is = (
    run_call folder job (end.Exit code output) ∷ l.0,
    ran_then folder job
        code output files l.0 r l.1.0 l.1.1 is,
    made_on exit_call l.0 old mid new made l.2,
  )

  pub exit_said : (files : List NamedFile) (said : JobResult) (c : ℤ) (text : List ℕ)
      → ((looks : List ShopCall) × (WentWell (get_asks folder job.outputs) looks [] × (files ≡
      files_found job.outputs looks)) × Made looks mid new) → said ≡ empty_result job.id
      → c ≡ code → text ≡ text_of output → Ends folder job (Ok (record said {
        exit_code = c;
        text =
            text;
        files = files;
      })) old new
  exit_said files said c text l er same is = exit_whole files (record said {
    exit_code = c;
    text =
        text;
    files = files;
  }) l (λ i. record (er i) {
    exit_code = same i;
    text = is i;
    files =
        files;
  })

  pub exit_unsaid : (e : NoMemory) (files : List NamedFile) → ((looks : List ShopCall) × (WentWell
      (get_asks folder job.outputs) looks [] × (files ≡ files_found job.outputs looks)) × Made
      looks mid new) → Ends folder job (Err e) old new
  exit_unsaid e files l = exit_cut e (l.0, ([], l.1.0), l.2)

-- ---- the job's own folder

pub in_its_folder : (folder : List ℕ) (job : Job) (r : Result JobResult NoMemory) (old new :
    ShopTold) → folder ≡ job_folder job.id → ((calls : List ShopCall) × ComesIn folder job r calls
    × Made calls old new) → (calls : List ShopCall) × ComesWhole job r calls × Made calls old new
in_its_folder folder job r old new is h = (
  h.0,
  subst (λ (f : List ℕ). ComesIn f job r h.0) is h.1,
  h.2,
)
