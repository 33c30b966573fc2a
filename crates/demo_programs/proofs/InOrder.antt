-- From the turns of an executor to the numbers of its results.
use Rattle.std.proofs.Common.{◌≡◌, ℕ, List, [], ◌∷◌, ◌++◌, Bool, true, false, Option, Some, None}
use Rattle.std.proofs.Common.{refl, ap, sym, ◌∙◌, subst, append_assoc, append-nil}
use Rattle.std.specs.Prelude.{if◌then◌else◌, ℤ, map}
use Rattle.std.specs.List.{flat_map}
use Rattle.std.proofs.lemmas.List.{map-append}
use Rattle.std.proofs.lemmas.Grind.{flat_map-append}
use Rattle.outside.specs.declared.shop.ShopCall.{ShopCall}
use Rattle.remote_messages.specs.declared.job.Job.{Job}
use Rattle.remote_messages.specs.declared.job_result.JobResult.{JobResult}
use Rattle.message_service.specs.declared.finish.Finish.{Finish}
use Rattle.message_service.specs.declared.finish.Finish.TheVariants as finish
use Rattle.message_service.specs.Ends.{PutsBy}
use Rattle.message_service.specs.Serves.{Outside, LeftBy}
use Rattle.message_service.specs.Turns.{Turn, Span, said, put_by, came_in, turns_in, Follows, Runs}
use Rattle.message_service.proofs.Turns.{said_on}
use Rattle.job_runner.specs.Results.{greeting}
use Rattle.job_runner.specs.Answers.{framed, Answers, FitsReply}
use Rattle.job_runner.proofs.Fits.{all_fit}
use Rattle.demo_programs.specs.Executes.{Executes, NumberedBy, AnswersInOrder, numbers_asked}

abbrev number_of : JobResult → ℤ
number_of r = r.id

abbrev asked_if : Bool → ℤ → List ℤ
asked_if cancels id = if cancels then [] else id ∷ []

-- These results were put for the jobs before those that are left.
abbrev Results : List Turn → List Job → List Job → Type 0
Results turns jobs left = (rs : List JobResult) × (put_by turns ≡ flat_map framed rs)
    × (numbers_asked jobs ≡ map number_of rs ++ numbers_asked left)

one_put : (job : Job) (behind : List Job) (calls : List ShopCall) (reply : Option (List ℕ))
    → FitsReply job behind calls reply
    → (rs : List JobResult) × (said reply ≡ flat_map framed rs)
    × (asked_if job.cancel job.id ≡ map number_of rs)
one_put job behind calls None fit =
    ([], refl, ap (λ (b : Bool). asked_if b job.id) fit)
one_put job behind calls (Some bytes) fit = (
  fit.1 ∷ [],
  fit.2 ∙ sym (append-nil (framed fit.1)),
  ap (λ (b : Bool). asked_if b job.id) fit.0
      ∙ ap (λ (id : ℤ). id ∷ []) (sym fit.3.0),
)

results_on : (ts us : List Turn) (jobs rest left : List Job) → Results ts jobs rest
    → (rs : List JobResult) → put_by us ≡ flat_map framed rs
    → numbers_asked rest ≡ map number_of rs ++ numbers_asked left
    → Results (ts ++ us) jobs left
results_on ts us jobs rest left one rs put numbers = (
  one.0 ++ rs,
  said_on ts us ∙ ap (λ (bytes : List ℕ). bytes ++ put_by us) one.1
      ∙ ap (λ (bytes : List ℕ). flat_map framed one.0 ++ bytes) put
      ∙ sym (flat_map-append framed one.0 rs),
  one.2 ∙ ap (λ (ids : List ℤ). map number_of one.0 ++ ids) numbers
      ∙ sym (append_assoc (map number_of one.0) (map number_of rs) (numbers_asked left))
      ∙ ap (λ (ids : List ℤ). ids ++ numbers_asked left) (sym (map-append number_of one.0 rs)),
)

results_in : (jobs : List Job) (ts : List Turn) (left : List Job) → Follows Answers jobs ts left
    → Results ts jobs left
results_in jobs [] left f = ([], refl, ap numbers_asked f)
results_in [] (t ∷ ts) left f = absurd f
results_in (job ∷ behind) (t ∷ ts) left f =
    let one = one_put job behind t.calls t.reply (all_fit job behind t.calls t.reply f.0) in
    let more = results_in behind ts left f.1 in (
      one.0 ++ more.0,
      ap (λ (bytes : List ℕ). bytes ++ put_by ts) one.1
          ∙ ap (λ (bytes : List ℕ). flat_map framed one.0 ++ bytes) more.1
          ∙ sym (flat_map-append framed one.0 more.0),
      ap (λ (ids : List ℤ). ids ++ numbers_asked behind) one.2
          ∙ ap (λ (ids : List ℤ). map number_of one.0 ++ ids) more.2
          ∙ sym (append_assoc (map number_of one.0) (map number_of more.0) (numbers_asked left))
          ∙ ap (λ (ids : List ℤ). ids ++ numbers_asked left)
          (sym (map-append number_of one.0 more.0)),
    )

asked_on : (xs ys : List Job) → numbers_asked (xs ++ ys) ≡ numbers_asked xs ++ numbers_asked ys
asked_on xs ys = flat_map-append (λ (job : Job). asked_if job.cancel job.id) xs ys

-- more jobs came behind those that were left
results_later : (ts : List Turn) (jobs rest more : List Job) → Results ts jobs rest
    → Results ts (jobs ++ more) (rest ++ more)
results_later ts jobs rest more one = (
  one.0,
  one.1,
  asked_on jobs more ∙ ap (λ (ids : List ℤ). ids ++ numbers_asked more) one.2
      ∙ append_assoc (map number_of one.0) (numbers_asked rest) (numbers_asked more)
      ∙ ap (λ (ids : List ℤ). map number_of one.0 ++ ids) (sym (asked_on rest more)),
)

results_by : (waiting : List Job) (spans : List (Span Job)) (left : List Job)
    → Runs Answers waiting spans left
    → Results (turns_in spans) (waiting ++ came_in spans) left
results_by waiting [] left r = ([], refl, ap numbers_asked (append-nil waiting ∙ r))
results_by waiting (s ∷ ss) left r =
    let here = results_later s.turns (waiting ++ s.came) r.0 (came_in ss)
    (results_in (waiting ++ s.came) s.turns r.0 r.1) in
    let later = results_by r.0 ss left r.2 in
    subst (λ (jobs : List Job). Results (s.turns ++ turns_in ss) jobs left)
    (append_assoc waiting s.came (came_in ss))
    (results_on s.turns (turns_in ss) ((waiting ++ s.came) ++ came_in ss) (r.0 ++ came_in ss) left
    here later.0 later.1 later.2)

none_left : (answered asked : List ℤ) (left : List Job) → left ≡ []
    → asked ≡ answered ++ numbers_asked left → answered ≡ asked
none_left answered asked left none e =
    sym (e ∙ ap (λ (jobs : List Job). answered ++ numbers_asked jobs) none ∙ append-nil answered)

numbered : (f : Finish) (answered asked : List ℤ) (left : List Job) (begun : List ShopCall)
    → LeftBy Answers (Some f) left begun → asked ≡ answered ++ numbers_asked left
    → NumberedBy f answered asked
numbered finish.AtEnd answered asked left begun l e = none_left answered asked left l.0 e
numbered finish.BadInput answered asked left begun l e = none_left answered asked left l.0 e
numbered finish.InputFault answered asked left begun l e = none_left answered asked left l.0 e
numbered finish.TooLong answered asked left begun l e = none_left answered asked left l.0 e
numbered finish.NoMemory answered asked left begun l e = (numbers_asked left, e)
numbered finish.OutputFault answered asked left begun l e = (numbers_asked left, e)

pub in_order : (f : Finish) (old new : Outside) → Executes f old new → AnswersInOrder f old new
in_order f old new s =
    let a = s.answered in
    let r = results_by [] a.spans a.left a.runs in
    record {
      bytes = s.bytes;
      jobs = s.messages;
      results = r.0;
      taken = s.taken;
      reads = s.reads;
      put = subst (λ (bytes : List ℕ). PutsBy (Some f) (framed greeting ++ bytes) old.out new.out)
          r.1 a.put;
      numbered = numbered f (map number_of r.0) (numbers_asked s.messages) a.left a.begun a.leaves
          (ap numbers_asked (sym a.came) ∙ r.2);
    }
