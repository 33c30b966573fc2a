-- The result of a job that isn't given up, by whether it is run.
use Rattle.std.proofs.Common.{◌≡◌, Bool, true, false, List, [], length, refl, ap, sym, ◌∙◌, subst, inl, inr}
use Rattle.std.specs.Prelude.{if◌then◌else◌, ltb, Result, Ok, Err, IfOk, OnErr}
use Rattle.plain_values.specs.declared.no_memory.NoMemory.{NoMemory}
use Rattle.outside.specs.Told.{ShopTold}
use Rattle.outside.specs.declared.shop.ShopCall.{ShopCall}
use Rattle.remote_messages.specs.declared.job.Job.{Job}
use Rattle.remote_messages.specs.declared.job_result.JobResult.{JobResult}
use Rattle.message_service.specs.Calls.{Made}
use Rattle.message_service.proofs.Made.{made_nothing}
use Rattle.job_runner.specs.declared.fate.Fate.{Fate}
use Rattle.job_runner.specs.declared.fate.Fate.TheVariants as fate
use Rattle.job_runner.specs.Calls.{bad_path}
use Rattle.job_runner.specs.Jobs.{has_bad_path}
use Rattle.job_runner.specs.Results.{refused, Comes, ComesWhole, most_bytes, too_large}
use Rattle.remote_messages.specs.JobResult.{job_result_spelling}
use Rattle.job_runner.specs.Answers.{ResultFor}
use Rattle.job_lanes.specs.Pools.{HasDone, HasBrokenOff, Begins}

abbrev alone : Bool → Fate
alone bad = if bad then fate.BadPath else fate.Runs

refuses : (job : Job) (r : JobResult) (told : ShopTold) → has_bad_path job ≡ true
    → r ≡ refused job.id bad_path → HasDone job r told told
refuses job r told bad is = record {
  id = ap (λ (x : JobResult). x.id) is;
  kept = ap (λ (x : JobResult). x.cancelled) is;
  calls = [];
  comes = subst (λ (b : Bool). ResultFor (alone b) job [] r) (sym bad) (refl, is);
  made = made_nothing told;
}

numbered_whole : (job : Job) (r : JobResult) (calls : List ShopCall)
    → ComesWhole job (Ok r) calls → (r.id ≡ job.id) × (r.cancelled ≡ false)
numbered_whole job r calls (inl ran) =
    (ap (λ (x : JobResult). x.id) ran.result, ap (λ (x : JobResult). x.cancelled) ran.result)
numbered_whole job r calls (inr refused) = (
  ap (λ (x : JobResult). x.id) refused.result,
  ap (λ (x : JobResult). x.cancelled) refused.result,
)

-- a result that would be too large is a refusal of the same job
bounded_so : (b : Bool) (whole : JobResult) (job : Job)
    → (whole.id ≡ job.id) × (whole.cancelled ≡ false)
    → ((if b then refused job.id too_large else whole).id ≡ job.id)
    × ((if b then refused job.id too_large else whole).cancelled ≡ false)
bounded_so true whole job n = (refl, refl)
bounded_so false whole job n = n

numbered : (job : Job) (r : JobResult) (calls : List ShopCall) → Comes job (Ok r) calls
    → (r.id ≡ job.id) × (r.cancelled ≡ false)
numbered job r calls c =
    let n = bounded_so (ltb most_bytes (length (job_result_spelling c.0))) c.0 job
    (numbered_whole job c.0 calls c.1) in
    (ap (λ (x : JobResult). x.id) c.2 ∙ n.0, ap (λ (x : JobResult). x.cancelled) c.2 ∙ n.1)

runs : (job : Job) (r : JobResult) (old new : ShopTold) → has_bad_path job ≡ false
    → ((calls : List ShopCall) × Comes job (Ok r) calls × Made calls old new)
    → HasDone job r old new
runs job r old new good h =
    let n = numbered job r h.0 h.1 in record {
      id = n.0;
      kept = n.1;
      calls = h.0;
      comes = subst (λ (b : Bool). ResultFor (alone b) job h.0 r) (sym good) h.1;
      made = h.2;
    }

-- no call was made for it
refuses_none : (job : Job) (told : ShopTold) → has_bad_path job ≡ true
    → HasBrokenOff job told told
refuses_none job told bad = record {
  calls = [];
  begins = subst (λ (b : Bool). Begins (alone b) job []) (sym bad) refl;
  made = made_nothing told;
}

runs_some : (job : Job) (e : NoMemory) (old new : ShopTold) → has_bad_path job ≡ false
    → ((calls : List ShopCall) × Comes job (Err e) calls × Made calls old new)
    → HasBrokenOff job old new
runs_some job e old new good h = record {
  calls = h.0;
  begins = subst (λ (b : Bool). Begins (alone b) job h.0) (sym good) h.1;
  made = h.2;
}

pub broken_or_not : (job : Job) (r : Result JobResult NoMemory) (old new : ShopTold)
    → has_bad_path job ≡ false
    → ((calls : List ShopCall) × Comes job r calls × Made calls old new)
    → OnErr r (HasBrokenOff job old new)
broken_or_not job (Ok r) old new good h = tt
broken_or_not job (Err e) old new good h = runs_some job e old new good h

pub refused_or_not : (job : Job) (r : Result JobResult NoMemory) (told : ShopTold)
    → has_bad_path job ≡ true → OnErr r (HasBrokenOff job told told)
refused_or_not job (Ok r) told bad = tt
refused_or_not job (Err e) told bad = refuses_none job told bad

-- the same, where memory may have run out
pub refuses_or_not : (job : Job) (r : Result JobResult NoMemory) (told : ShopTold)
    → has_bad_path job ≡ true → IfOk r (λ x. x ≡ refused job.id bad_path)
    → IfOk r (λ x. HasDone job x told told)
refuses_or_not job (Ok r) told bad is = refuses job r told bad is
refuses_or_not job (Err e) told bad is = tt

pub runs_or_not : (job : Job) (r : Result JobResult NoMemory) (old new : ShopTold)
    → has_bad_path job ≡ false
    → ((calls : List ShopCall) × Comes job r calls × Made calls old new)
    → IfOk r (λ x. HasDone job x old new)
runs_or_not job (Ok r) old new good h = runs job r old new good h
runs_or_not job (Err e) old new good h = tt
