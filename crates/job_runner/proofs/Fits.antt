-- What a reply says of its job.
use Rattle.std.proofs.Common.{◌≡◌, ℤ, List, [], Bool, true, false, Some, None, refl, ap}
use Rattle.std.proofs.Common.{inl, inr, sym, ◌∙◌}
use Rattle.std.specs.Prelude.{Ok, if◌then◌else◌, length, ltb}
use Rattle.outside.specs.declared.shop.ShopCall.{ShopCall}
use Rattle.remote_messages.specs.declared.job.Job.{Job}
use Rattle.remote_messages.specs.declared.job_result.JobResult.{JobResult}
use Rattle.job_runner.specs.declared.fate.Fate.{Fate}
use Rattle.job_runner.specs.declared.fate.Fate.TheVariants as fate
use Rattle.job_runner.specs.Jobs.{has_bad_path, is_given_up}
use Rattle.remote_messages.specs.JobResult.{job_result_spelling}
use Rattle.job_runner.specs.Results.{bounded, most_bytes, refused, too_large, ComesWhole}
use Rattle.job_runner.specs.Answers.{ResultFor, RepliesFit}

abbrev fate_by : Bool → Bool → Bool → Fate
fate_by cancels given bad =
    if cancels then fate.Cancels
    else if given then fate.GivenUp
    else if bad then fate.BadPath
    else fate.Runs

false_not_true : false ≡ true → ⊥
false_not_true e = cc

-- what is known of a result by what is done with its job
abbrev Fits : Bool → Bool → Job → List ShopCall → JobResult → Type 0
Fits cancels given job calls r = (cancels ≡ false) × (r.id ≡ job.id) × (r.cancelled ≡ given)
    × (r.cancelled ≡ true → calls ≡ [])

not_cancelled : (r : JobResult) (calls : List ShopCall) → r.cancelled ≡ false
    → r.cancelled ≡ true → calls ≡ []
not_cancelled r calls kept given_up = absurd (false_not_true (sym kept ∙ given_up))

-- a result of whatever length
whole_fits : (job : Job) (calls : List ShopCall) (whole : JobResult)
    → ComesWhole job (Ok whole) calls → (whole.id ≡ job.id) × (whole.cancelled ≡ false)
whole_fits job calls whole (inl ran) = (
  ap (λ (x : JobResult). x.id) ran.result,
  ap (λ (x : JobResult). x.cancelled) ran.result,
)
whole_fits job calls whole (inr refused) = (
  ap (λ (x : JobResult). x.id) refused.result,
  ap (λ (x : JobResult). x.cancelled) refused.result,
)

-- what is answered has the job's number, and isn't cancelled either
same_by : (large : Bool) (id : ℤ) (whole : JobResult) → whole.id ≡ id → whole.cancelled ≡ false
    → ((if large then refused id too_large else whole).id ≡ id)
    × ((if large then refused id too_large else whole).cancelled ≡ false)
same_by true id whole own kept = (refl, refl)
same_by false id whole own kept = (own, kept)

fits_bounded : (job : Job) (calls : List ShopCall) (whole r : JobResult)
    → (whole.id ≡ job.id) × (whole.cancelled ≡ false) → r ≡ bounded job.id whole
    → Fits false false job calls r
fits_bounded job calls whole r h is =
    let same = same_by (ltb most_bytes (length (job_result_spelling whole))) job.id whole h.0 h.1 in
    let kept = ap (λ (x : JobResult). x.cancelled) is ∙ same.1 in (
      refl,
      ap (λ (x : JobResult). x.id) is ∙ same.0,
      kept,
      not_cancelled r calls kept,
    )

fits : (cancels given bad : Bool) (job : Job) (calls : List ShopCall) (r : JobResult)
    → ResultFor (fate_by cancels given bad) job calls r → Fits cancels given job calls r
fits true given bad job calls r h = absurd h
fits false true bad job calls r h = (
  refl,
  ap (λ (x : JobResult). x.id) h.1,
  ap (λ (x : JobResult). x.cancelled) h.1,
  λ given_up. h.0,
)
fits false false true job calls r h =
    let kept = ap (λ (x : JobResult). x.cancelled) h.1 in
    (refl, ap (λ (x : JobResult). x.id) h.1, kept, not_cancelled r calls kept)
fits false false false job calls r h = fits_bounded job calls h.0 r (whole_fits job calls h.0 h.1) h.2

given_up_not : fate.GivenUp ≡ fate.Cancels → ⊥
given_up_not e = cc

bad_path_not : fate.BadPath ≡ fate.Cancels → ⊥
bad_path_not e = cc

runs_not : fate.Runs ≡ fate.Cancels → ⊥
runs_not e = cc

-- what is done where there is no reply
cancels : (cancel given bad : Bool) → fate_by cancel given bad ≡ fate.Cancels → cancel ≡ true
cancels true given bad e = refl
cancels false true bad e = absurd (given_up_not e)
cancels false false true e = absurd (bad_path_not e)
cancels false false false e = absurd (runs_not e)

pub all_fit : RepliesFit
all_fit job behind calls None h =
    cancels job.cancel (is_given_up job.id behind) (has_bad_path job) h.0
all_fit job behind calls (Some bytes) h =
    let f = fits job.cancel (is_given_up job.id behind) (has_bad_path job) job calls h.0 h.1 in
    (f.0, h.0, h.2, (f.1, f.2, f.3))
