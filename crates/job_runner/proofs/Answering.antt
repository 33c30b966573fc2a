-- What is answered to a job, by what is done with it.
use Rattle.std.proofs.Common.{◌≡◌, ℕ, List, [], Option, Some, None, Result, refl, subst, sym, ◌∙◌}
use Rattle.std.proofs.Common.{inl, inr}
use Rattle.std.specs.Prelude.{Ok, Err, IfOk}
use Rattle.plain_values.specs.declared.no_memory.NoMemory.{NoMemory}
use Rattle.outside.specs.declared.shop.ShopCall.{ShopCall}
use Rattle.outside.specs.Told.{ShopTold}
use Rattle.remote_messages.specs.declared.job.Job.{Job}
use Rattle.remote_messages.specs.declared.job_result.JobResult.{JobResult}
use Rattle.message_service.specs.Calls.{Made}
use Rattle.message_service.proofs.Made.{made_nothing}
use Rattle.job_runner.specs.declared.fate.Fate.{Fate}
use Rattle.job_runner.specs.declared.fate.Fate.TheVariants as fate
use Rattle.job_runner.specs.Calls.{Starts, WentWell, bad_path}
use Rattle.job_runner.specs.Jobs.{asks_in, fill_asks, job_folder}
use Rattle.job_runner.specs.Results.{bounded, refused, given_up, ComesIn, ComesWhole, Comes}
use Rattle.job_runner.specs.Answers.{fate_of, framed, ResultFor, BegunFor, Answers}
use Rattle.job_runner.proofs.Does.{well_then}
use Rattle.job_runner.proofs.Coming.{asks_from}

pub begun_of : (folder : List ℕ) (job : Job) (r : JobResult) (calls : List ShopCall)
    → ComesIn folder job (Ok r) calls → Starts (asks_in folder job) calls
begun_of folder job r calls (inl ran) = inl (
  [],
  subst (λ (cs : List ShopCall). WentWell (asks_in
      folder job) cs []) (sym ran.all) (well_then (fill_asks folder job) (asks_from folder job)
      ran.writes _ [] ran.filled (refl, refl, ran.looked)),
)
begun_of folder job r calls (inr no') = inr (no'.why, no'.stops)

abbrev pub Done : Job → List Job → Result (Option (List ℕ)) NoMemory → ShopTold → ShopTold → Type 0
Done job behind r old new = (calls : List ShopCall) × Answers job behind calls r × Made calls old
    new

answered : (f : Fate) (job : Job) (behind : List Job) (calls : List ShopCall) (jr : JobResult) (r :
    Result (Option (List ℕ)) NoMemory) → f ≡ fate_of job behind
    → IfOk r (λ reply. reply ≡ Some (framed jr)) → ResultFor f job calls jr
    → BegunFor f job calls → Answers job behind calls r
answered f job behind calls jr (Ok reply) is says result begun =
    subst (λ (o : Option (List ℕ)). Answers job behind calls (Ok o)) (sym says) (
      jr,
      subst (λ (x :
          Fate). ResultFor x job calls jr) is result,
      refl,
    )
answered f job behind calls jr (Err e) is says result begun = subst (λ (x : Fate). BegunFor x job
    calls) is begun

pub cancels : (f : Fate) (job : Job) (behind : List Job) (told : ShopTold)
    → f ≡ fate_of job behind → f ≡ fate.Cancels → Done job behind (Ok None) told told
cancels f job behind told is says = ([], (sym is ∙ says, refl), made_nothing told)

pub gives_up : (f : Fate) (job : Job) (behind : List Job) (jr : JobResult) (r : Result (Option
    (List ℕ)) NoMemory) (told : ShopTold) → f ≡ fate_of job behind → f ≡ fate.GivenUp
    → jr ≡ given_up job.id → IfOk r (λ reply. reply ≡ Some (framed jr))
    → Done job behind r told told
gives_up f job behind jr r told is says given framed_so = (
  [],
  answered fate.GivenUp job behind []
      jr r (sym says ∙ is) framed_so (refl, given) refl,
  made_nothing told,
)

pub refuses : (f : Fate) (job : Job) (behind : List Job) (jr : JobResult) (r : Result (Option (List
    ℕ)) NoMemory) (told : ShopTold) → f ≡ fate_of job behind → f ≡ fate.BadPath
    → jr ≡ refused job.id bad_path → IfOk r (λ reply. reply ≡ Some (framed jr))
    → Done job behind r told told
refuses f job behind jr r told is says given framed_so = (
  [],
  answered fate.BadPath job behind []
      jr r (sym says ∙ is) framed_so (refl, given) refl,
  made_nothing told,
)

pub refuses_not : (f : Fate) (job : Job) (behind : List Job) (e : NoMemory) (told : ShopTold)
    → f ≡ fate_of job behind → f ≡ fate.BadPath → Done job behind (Err e) told told
refuses_not f job behind e told is says = (
  [],
  subst (λ (x : Fate). BegunFor x job []) (sym says
      ∙ is) refl,
  made_nothing told,
)

pub runs : (f : Fate) (job : Job) (behind : List Job) (jr : JobResult) (r : Result (Option (List
    ℕ)) NoMemory) (old new : ShopTold) → f ≡ fate_of job behind → f ≡ fate.Runs
    → ((calls : List ShopCall) × Comes job (Ok jr) calls × Made calls old new)
    → IfOk r (λ reply. reply ≡ Some (framed jr)) → Done job behind r old new
runs f job behind jr r old new is says h framed_so = (
  h.0,
  answered fate.Runs job behind h.0 jr r
      (sym says ∙ is) framed_so h.1 (begun_of (job_folder job.id) job h.1.0 h.0 h.1.1),
  h.2,
)

pub runs_not : (f : Fate) (job : Job) (behind : List Job) (e : NoMemory) (old new : ShopTold)
    → f ≡ fate_of job behind → f ≡ fate.Runs → ((calls : List ShopCall) × Comes job (Err e) calls ×
    Made calls old new) → Done job behind (Err e) old new
runs_not f job behind e old new is says h = (
  h.0,
  subst (λ (x : Fate). BegunFor x job h.0) (sym
      says ∙ is) h.1,
  h.2,
)

-- what is answered in place of a result comes behind the same calls
pub answers_so : (job : Job) (whole : JobResult) (r : Result JobResult NoMemory) (old new :
    ShopTold) → ((calls : List ShopCall) × ComesWhole job (Ok whole) calls × Made calls old new)
    → IfOk r (λ x. x ≡ bounded job.id whole)
    → (calls : List ShopCall) × Comes job r calls × Made calls old new
answers_so job whole (Ok r) old new h is = (h.0, (whole, h.1, is), h.2)
answers_so job whole (Err e) old new h is = (
  h.0,
  begun_of (job_folder job.id) job whole h.0 h.1,
  h.2,
)
