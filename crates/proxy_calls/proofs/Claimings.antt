-- What a Claim leaves, and a Committed.
use Rattle.std.proofs.Common.{◌≡◌, ◌⊎◌, inl, inr, ⊎_elim, ℕ, zero, suc, ◌/◌, true, ◌&&◌, List, [], ◌∷◌, ◌++◌, Option, Some, None, refl, ap, sym, subst, ◌∙◌, eq-eqb, arith, length, take, ◌+◌, ◌-◌, ◌^◌, ◌≤◌, ◌<◌, min}
use Rattle.std.proofs.lemmas.List.{take_all}
use Rattle.outside.specs.Causes.{Rose}
use Rattle.outside.specs.Lists.{Tells}
use Rattle.outside.specs.declared.place.PlaceWrite.{PlaceWrite}
use Rattle.output_commit.specs.Commits.{writes_of}
use Rattle.seat_desk.specs.History.{entry, StartsWith}
use Rattle.run_plan.specs.declared.plan.Branch.{Branch}
use Rattle.run_plan.specs.declared.plan.Branch.TheVariants.{Local, Remote}
use Rattle.exec_journal.specs.declared.attempt.Attempt.{Attempt}
use Rattle.exec_journal.specs.declared.call.Call.{Call}
use Rattle.exec_journal.specs.declared.call.Call.TheVariants as call
use Rattle.exec_journal.specs.declared.call.CommitEnd.{CommitEnd}
use Rattle.exec_journal.specs.declared.call.Found.{Found}
use Rattle.exec_journal.specs.declared.call.Found.TheVariants as found
use Rattle.exec_journal.specs.declared.reply.Reply.{Reply}
use Rattle.exec_journal.specs.declared.reply.Reply.TheVariants as reply
use Rattle.exec_journal.specs.Entries.{is_kept, same_branch}
use Rattle.outside.specs.Told.{ChildTold, TapTold, PlaceTold}
use Rattle.core_contract.specs.Discipline.{Discipline, outputs_in}
use Rattle.core_contract.specs.Moves.{Past, History, Move, Nothing, claim_moves}
use Rattle.core_contract.specs.Shelf.{Fresh}
use Rattle.core_contract.specs.Laws.{fits_claim, claimed, claimed_by}
use Rattle.core_contract.specs.Duties.{Duty, Asks, Commits, ordered, duty_of_claim, duty_from, duty_by, duty_of, proxy_lane, may_do}
use Rattle.core_machine.specs.declared.shelf.Good.{Good}
use Rattle.core_machine.specs.declared.shelf.Good.TheVariants as good
use Rattle.core_machine.specs.Bench.{IsPlace, Comes, ComesOut}
use Rattle.proxy_calls.specs.Goods.{place_good}
use Rattle.proxy_calls.specs.Claims.{claim_of, OwesCommit, IsGranted}
use Rattle.proxy_calls.proofs.Replies.{is_noted, claim_is_kept}
use Rattle.proxy_calls.proofs.Entries.{Called, made, grew, duty_made, claimed_more, move_is}
use Rattle.proxy_calls.proofs.Askings.{comes_here}
use Rattle.proxy_calls.proofs.Reportings.{by_call}

-- ---- replies to a Claim

orders_none : (r : Reply) → fits_claim r ≡ true → ordered r ≡ Asks
orders_none (reply.Launch l a b t) e = absurd (cc)
orders_none (reply.Send l n a b t) e = absurd (cc)
orders_none (reply.Cancel l n) e = absurd (cc)
orders_none (reply.Gather l n a b t x y) e = absurd (cc)
orders_none (reply.Kill l y) e = absurd (cc)
orders_none reply.Stop e = absurd (cc)
orders_none reply.Idle e = absurd (cc)
orders_none reply.Noted e = absurd (cc)
orders_none (reply.File f) e = absurd (cc)
orders_none reply.NoFile e = absurd (cc)
orders_none reply.Granted e = refl
orders_none reply.Lost e = refl
orders_none reply.Dropped e = refl
orders_none reply.AgainLater e = refl
orders_none (reply.Line l) e = absurd (cc)
orders_none (reply.Matched a b t) e = absurd (cc)
orders_none (reply.Late a b t) e = absurd (cc)
orders_none reply.Greeted e = absurd (cc)
orders_none (reply.Stray y) e = absurd (cc)
orders_none (reply.Breach y) e = absurd (cc)
orders_none reply.Astray e = absurd (cc)
orders_none reply.NoMemory e = absurd (cc)

goes_to : (s : Duty) (a_ : ℕ) (b_ : Branch) (t_ : ℕ) (f_ : Found) (r : Reply) → fits_claim r ≡ true
    → duty_from s (call.Claim a_ b_ t_ f_) r ≡ duty_of_claim a_ b_ f_ r
goes_to s a_ b_ t_ f_ (reply.Launch l a b t) e = absurd (cc)
goes_to s a_ b_ t_ f_ (reply.Send l n a b t) e = absurd (cc)
goes_to s a_ b_ t_ f_ (reply.Cancel l n) e = absurd (cc)
goes_to s a_ b_ t_ f_ (reply.Gather l n a b t x y) e = absurd (cc)
goes_to s a_ b_ t_ f_ (reply.Kill l y) e = absurd (cc)
goes_to s a_ b_ t_ f_ reply.Stop e = absurd (cc)
goes_to s a_ b_ t_ f_ reply.Idle e = absurd (cc)
goes_to s a_ b_ t_ f_ reply.Noted e = absurd (cc)
goes_to s a_ b_ t_ f_ (reply.File f) e = absurd (cc)
goes_to s a_ b_ t_ f_ reply.NoFile e = absurd (cc)
goes_to s a_ b_ t_ f_ reply.Granted e = refl
goes_to s a_ b_ t_ f_ reply.Lost e = refl
goes_to s a_ b_ t_ f_ reply.Dropped e = refl
goes_to s a_ b_ t_ f_ reply.AgainLater e = refl
goes_to s a_ b_ t_ f_ (reply.Line l) e = absurd (cc)
goes_to s a_ b_ t_ f_ (reply.Matched a b t) e = absurd (cc)
goes_to s a_ b_ t_ f_ (reply.Late a b t) e = absurd (cc)
goes_to s a_ b_ t_ f_ reply.Greeted e = absurd (cc)
goes_to s a_ b_ t_ f_ (reply.Stray y) e = absurd (cc)
goes_to s a_ b_ t_ f_ (reply.Breach y) e = absurd (cc)
goes_to s a_ b_ t_ f_ reply.Astray e = absurd (cc)
goes_to s a_ b_ t_ f_ reply.NoMemory e = absurd (cc)

-- files were granted, or nothing moves and nothing is owed
abbrev IsPlain : ℕ → Branch → Found → Reply → Type 0
IsPlain a b f r = (claim_moves a f r ≡ Nothing) × (duty_of_claim a b f r ≡ Asks)

abbrev Outcome : ℕ → Branch → Found → Reply → Type 0
Outcome a b f r =
    ((fs : List (List ℕ)) × (f ≡ found.Files fs) × (r ≡ reply.Granted)) ⊎ IsPlain a b f r

of_files : (a_ : ℕ) (b_ : Branch) (fs : List (List ℕ)) (r : Reply) → fits_claim r ≡ true
    → Outcome a_ b_ (found.Files fs) r
of_files a_ b_ fs (reply.Launch l a b t) e = absurd (cc)
of_files a_ b_ fs (reply.Send l n a b t) e = absurd (cc)
of_files a_ b_ fs (reply.Cancel l n) e = absurd (cc)
of_files a_ b_ fs (reply.Gather l n a b t x y) e = absurd (cc)
of_files a_ b_ fs (reply.Kill l y) e = absurd (cc)
of_files a_ b_ fs reply.Stop e = absurd (cc)
of_files a_ b_ fs reply.Idle e = absurd (cc)
of_files a_ b_ fs reply.Noted e = absurd (cc)
of_files a_ b_ fs (reply.File f) e = absurd (cc)
of_files a_ b_ fs reply.NoFile e = absurd (cc)
of_files a_ b_ fs reply.Granted e = inl (fs, refl, refl)
of_files a_ b_ fs reply.Lost e = inr (refl, refl)
of_files a_ b_ fs reply.Dropped e = inr (refl, refl)
of_files a_ b_ fs reply.AgainLater e = inr (refl, refl)
of_files a_ b_ fs (reply.Line l) e = absurd (cc)
of_files a_ b_ fs (reply.Matched a b t) e = absurd (cc)
of_files a_ b_ fs (reply.Late a b t) e = absurd (cc)
of_files a_ b_ fs reply.Greeted e = absurd (cc)
of_files a_ b_ fs (reply.Stray y) e = absurd (cc)
of_files a_ b_ fs (reply.Breach y) e = absurd (cc)
of_files a_ b_ fs reply.Astray e = absurd (cc)
of_files a_ b_ fs reply.NoMemory e = absurd (cc)

of_claim : (a : ℕ) (b : Branch) (f : Found) (r : Reply) → fits_claim r ≡ true → Outcome a b f r
of_claim a b (found.Files fs) r e = of_files a b fs r e
of_claim a b (found.Exit x) r e = inr (refl, orders_none r e)
of_claim a b (found.Missing k) r e = inr (refl, orders_none r e)
of_claim a b found.RoomFault r e = inr (refl, orders_none r e)
of_claim a b found.Refused r e = inr (refl, orders_none r e)

-- ---- what comes out

module _ {K T P : Type 0} (child : K → ChildTold) (tap : T → TapTold) (place : P → PlaceTold)
    (discipline : Discipline) (t : Attempt) where
  place_out : (fs : List (List ℕ)) (own : History) (g : Option (Good K T P))
      → IsPlace child tap place discipline t.action Fresh g → OwesCommit t fs own
      → IsGranted place (outputs_in discipline.plan t.action) t (place_good g) (found.Files fs) reply.Granted own
  place_out fs own (Some (good.Place p)) is owes = (owes, is)
  place_out fs own (Some (good.Line k u)) is owes = absurd is
  place_out fs own (Some (good.Child k)) is owes = absurd is
  place_out fs own (Some (good.Tap u)) is owes = absurd is
  place_out fs own None is owes = absurd is

  module _ (f : Found) (r : Reply) (h : History) (w : ℕ) (own own' : History)
      (g : Option (Good K T P))
      (out : Comes child tap place discipline h w (claim_moves t.action f r) g)
      (duty : duty_of own' ≡ duty_of_claim t.action t.branch f r)
      (moved : claimed own' ≡ claimed_by (claimed own) (claim_moves t.action f r)) where
    abbrev Is : Found → Reply → Option P → Type 0
    Is x y o = IsGranted place (outputs_in discipline.plan t.action) t o x y own'

    by_files : (fs : List (List ℕ)) → f ≡ found.Files fs → r ≡ reply.Granted
        → Is f r (place_good g)
    by_files fs is_files is_granted =
        let at : (P : Found → Reply → Type 0) → P f r → P (found.Files fs) reply.Granted =
        λ P x. subst (λ (s : Reply). P (found.Files fs) s) is_granted
        (subst (λ (y : Found). P y r) is_files x) in
        let back : Is (found.Files fs) reply.Granted (place_good g) =
        place_out fs own' g
        (at (λ x y. Comes child tap place discipline h w (claim_moves t.action x y) g) out)
        (record {
          duty = at (λ x y. duty_of own' ≡ duty_of_claim t.action t.branch x y) duty;
          granted = at (λ x y. claimed own' ≡ claimed_by (claimed own) (claim_moves t.action x y))
              moved;
        }) in
        subst (λ (y : Found). Is y r (place_good g)) (sym is_files)
        (subst (λ (s : Reply). Is (found.Files fs) s (place_good g)) (sym is_granted) back)

    by_plain : IsPlain t.action t.branch f r → Is f r (place_good g)
    by_plain p =
        let none : g ≡ None =
        subst (λ (m : Move). Comes child tap place discipline h w m g) p.0 out in
        subst (λ (o : Option P). Is f r o) (sym (ap place_good none)) (duty ∙ p.1)

    pub is_granted : fits_claim r ≡ true → Is f r (place_good g)
    is_granted fit = ⊎_elim (λ x. by_files x.0 x.1 x.2) by_plain (of_claim t.action t.branch f r fit)

-- ---- a Claim

module _ {K T P : Type 0} (rule : History → ℕ → Call → Reply)
    (child : K → ChildTold) (tap : T → TapTold) (place : P → PlaceTold)
    (discipline : Discipline) (lane w : ℕ)
    (then seen own seen' own' : History) (t : Attempt) (f : Found) (r : Reply)
    (g : Option (Good K T P)) (is : lane ≡ proxy_lane w)
    (may : may_do discipline w (duty_of own) (claim_of t f) ≡ true)
    (k : Called rule lane then seen own seen' own' (claim_of t f) r)
    (out : ComesOut child tap place discipline then lane (claim_of t f) r g) where
  kept : is_kept r ≡ true
  kept = claim_is_kept r k.fitting

  pub claim_made : StartsWith seen' seen × (own' ≡ own ++ entry lane (claim_of t f) r ∷ [])
  claim_made = (
    grew rule lane then seen own seen' own' (claim_of t f) r r k refl kept,
    made rule lane then seen own seen' own' (claim_of t f) r r k refl kept,
  )

  pub claim_granted : IsGranted place (outputs_in discipline.plan t.action) t (place_good g) f r own'
  claim_granted =
      let e : Past = entry lane (claim_of t f) r in
      is_granted child tap place discipline t f r then (lane / 2) own own' g
      (comes_here child tap place discipline then lane w (claim_of t f) r g is out)
      (duty_made rule lane then seen own seen' own' (claim_of t f) r r k refl kept
      ∙ (by_call discipline w (duty_of own) (claim_of t f) (claim_of t f) r may
      ∙ goes_to (duty_of own) t.action t.branch t.number f r k.fitting))
      (ap claimed claim_made.1 ∙ (claimed_more own e
      ∙ ap (claimed_by (claimed own)) (move_is lane w (claim_of t f) r is)))
      k.fitting

-- ---- Committed

same_itself : (b : Branch) → same_branch b b ≡ true
same_itself Local = refl
same_itself Remote = refl

pub may_commit : (discipline : Discipline) (w : ℕ) (s : Duty)
    (a : ℕ) (b : Branch) (fs : List (List ℕ)) (how : CommitEnd) → s ≡ Commits a b fs
    → may_do discipline w s (call.Committed a b how) ≡ true
may_commit discipline w s a b fs how is =
    ap (λ (x : Duty). may_do discipline w x (call.Committed a b how)) is
    ∙ (λ i. eq-eqb a a refl i && same_itself b i)

module _ (rule : History → ℕ → Call → Reply) (lane : ℕ) (then seen own seen' own' : History)
    (a : ℕ) (b : Branch) (fs : List (List ℕ)) (how : CommitEnd) (r : Reply)
    (duty : duty_of own ≡ Commits a b fs)
    (k : Called rule lane then seen own seen' own' (call.Committed a b how) r) where
  noted : r ≡ reply.Noted
  noted = is_noted r k.fitting

  pub commit_made : StartsWith seen' seen
      × (own' ≡ own ++ entry lane (call.Committed a b how) reply.Noted ∷ [])
  commit_made = (
    grew rule lane then seen own seen' own' (call.Committed a b how) r reply.Noted k noted refl,
    made rule lane then seen own seen' own' (call.Committed a b how) r reply.Noted k noted refl,
  )

  pub commit_asks : duty_of own' ≡ Asks
  commit_asks =
      duty_made rule lane then seen own seen' own' (call.Committed a b how) r reply.Noted k noted refl
      ∙ ap (λ (s : Duty). duty_by s (call.Committed a b how) reply.Noted) duty

-- ---- the writes

few_writes : (outputs files : List (List ℕ)) → length (writes_of outputs files) ≤ length outputs
few_writes [] files = omega arith
few_writes (o ∷ os) [] = omega arith
few_writes (o ∷ os) (f ∷ fs) = let more = few_writes os fs in omega arith

-- a count that has risen isn't 0
pub risen : (old new : ℕ) → Rose old new → 0 < new
risen old new rose =
    let more : min (old + 1) (2 ^ 64 - 1) ≤ new = rose in
    omega arith

pub below_writes : (k : ℕ) (outputs files : List (List ℕ)) → k < length outputs
    → length files ≡ length outputs → k < length (writes_of outputs files)
below_writes k [] files below same = absurd (omega (arith, below))
below_writes k (o ∷ os) [] below same = absurd (cc)
below_writes zero (o ∷ os) (f ∷ fs) below same = omega arith
below_writes (suc k) (o ∷ os) (f ∷ fs) below same =
    let more = below_writes k os fs (omega (arith, below)) (omega (arith, same)) in
    omega (arith, more)

pub wrote_all : (outputs files : List (List ℕ)) (log : Option (List PlaceWrite))
    → Tells log (take (length outputs) (writes_of outputs files)) → Tells log (writes_of outputs files)
wrote_all outputs files log h = subst (λ (ws : List PlaceWrite). Tells log ws)
    (take_all (length outputs) (writes_of outputs files) (few_writes outputs files)) h
