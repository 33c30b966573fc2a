-- A line that was given up, for Unwanted or Quit, has nothing left to do; and what comes before an Ended and a Killed.
use Rattle.std.proofs.Common.{◌≡◌, ℕ, ◌/◌, true, false, List, [], ◌∷◌, Option, Some, None, ◌⊎◌, inl, inr, refl, subst}
use Rattle.std.proofs.lemmas.Bool.{eqb-true, eq-eqb, or_cases}
use Rattle.run_plan.specs.declared.plan.Plan.{Plan}
use Rattle.run_plan.specs.Groups.{is_single}
use Rattle.exec_journal.specs.Seated.{line_kind}
use Rattle.exec_journal.specs.Entry.{Entry}
use Rattle.exec_journal.specs.declared.ends.Cause.{Cause}
use Rattle.exec_journal.specs.declared.ends.Cause.TheVariants as cause
use Rattle.exec_journal.specs.declared.call.Answer.{Answer}
use Rattle.exec_journal.specs.declared.call.HowEnded.{HowEnded}
use Rattle.exec_journal.specs.declared.call.Call.{Call}
use Rattle.exec_journal.specs.declared.call.Call.TheVariants as call
use Rattle.exec_journal.specs.declared.reply.Reply.{Reply}
use Rattle.exec_journal.specs.declared.reply.Reply.TheVariants as reply
use Rattle.exec_journal.specs.declared.reply.Why.TheVariants as why
use Rattle.exec_journal.specs.Entries.{Request, orders_kill, kills, takes}
use Rattle.exec_journal.specs.Words.{pending, last_work, sent_on, kill_ordered, was_killed, was_taken, started, has_ended, halted, why_of}
use Rattle.exec_journal.specs.Settled.{bound, all_settled}
use Rattle.exec_journal.specs.Rules as r
use Rattle.exec_journal.specs.Lawful as lw
use Rattle.exec_journal.specs.Scripts as sc
use Rattle.exec_journal.specs.Lawful.{Lawful}
use Rattle.exec_journal.specs.Facts.{IsOfBerth}
use Rattle.journal_laws.specs.Steps.{IsDone, gives_up, given_up}
use Rattle.exec_journal.proofs.Reasons as u
use Rattle.journal_laws.proofs.Owed as o
use Rattle.journal_laws.proofs.Owed.{is_kill}
use Rattle.journal_laws.proofs.Over as v
use Rattle.journal_laws.proofs.Claims as c
use Rattle.journal_laws.proofs.Claims.{clash}
use Rattle.journal_laws.proofs.Requests as q
use Rattle.journal_laws.proofs.Vacant as va
use Rattle.journal_laws.proofs.Lanes as la
use Rattle.journal_laws.proofs.Taps as ta
use Rattle.journal_laws.proofs.Cleaned as cl

gives_order : (l : ℕ) (x : Reply) → gives_up l x ≡ true → orders_kill l x ≡ true
gives_order l (reply.Kill k why.Unwanted) h = h
gives_order l (reply.Kill k why.Quit) h = h
gives_order l (reply.Kill k why.Evicted) h = h
gives_order l _ h = absurd (cc)

given_ordered : (j : List Entry) (l : ℕ) → given_up j l ≡ true → kill_ordered j l ≡ true
unfolding given_up kill_ordered
given_ordered j l h = c.ever_map (λ e. gives_up l e.reply) (λ e. orders_kill l e.reply) (λ e y. gives_order l e.reply y) j h

no_reason : (l m : ℕ) (y : Cause) → gives_up l (reply.Kill m (why_of y)) ≡ true → ⊥
no_reason l m cause.Breach h = cc
no_reason l m cause.Feed h = cc
no_reason l m _ h = cc

given_done : (p : Plan) (j : List Entry) (l : ℕ) → Lawful p j → halted j ≡ false → (lane : ℕ) (d : Call) (x : Reply) → u.Ruled p j lane d x → gives_up l x ≡ true → IsDone p j l
given_done p j l legal none lane d x (u.Quits m here run over) h =
    let n = eqb-true m l h in
    elim (or_cases (all_settled p j) (halted j) over) [
      | inl all ↦ cl.over_done p j l (lane / 2) legal (subst (λ i. IsOfBerth j i (lane / 2)) n (la.here_own p j (lane / 2) m legal here)) all
      | inr halt ↦ absurd (clash (halted j) halt none)
    ]
given_done p j l legal none lane d x (u.KillsBroken m y here run broken over) h = absurd (no_reason l m y h)
given_done p j l legal none lane d x (u.KillsUnwanted m here run one no_cancel unwanted over) h =
    let n = eqb-true m l h in
    cl.unwanted_done p j l (lane / 2) legal (subst (λ i. IsOfBerth j i (lane / 2)) n (la.here_own p j (lane / 2) m legal here)) (subst (λ i. is_single (line_kind p j i) ≡ true) n one) (subst (λ i. r.has_unwanted p j i ≡ true) n unwanted)
given_done p j l legal none lane d x (u.Evicts m here alive empty free before) h =
    let n = eqb-true m l h in
    cl.empty_done p j l (lane / 2) (subst (λ i. IsOfBerth j i (lane / 2)) n (la.here_own p j (lane / 2) m legal here))
    (subst (λ i. pending j i ≡ []) n empty) (subst (λ i. bound p j i ≡ None) n free)
given_done p j l legal none lane d x _ h = absurd (cc)

-- where no lane halted: nothing is bound to it, and each pending request is of an action with a grant
pub given_up_done : (p : Plan) (j : List Entry) (l : ℕ) → Lawful p j → halted j ≡ false → given_up j l ≡ true → IsDone p j l
unfolding given_up
given_up_done p [] l legal none h = absurd (cc)
given_up_done p (e ∷ j) l legal none h = by (or_cases (gives_up l e.reply) (given_up j l) h) (λ y. given_up_done p j l legal.0 (cl.unhalted_before e j none) y)
  where
    unsent : given_up j l ≡ true → (w : Option Request) → sent_on l e.reply ≡ w → w ≡ None
    unsent old None is = refl
    unsent old (Some x) is =
        let s = q.sent_on_is l e.reply x is in
        absurd (clash (kill_ordered j l) (given_ordered j l old) (subst (λ n. kill_ordered j n ≡ false) s.1 (la.sends_unordered p e j x legal s.0)))

    by : (gives_up l e.reply ≡ true) ⊎ (given_up j l ≡ true) → (given_up j l ≡ true → IsDone p j l) → IsDone p (e ∷ j) l
    by (inl here) ih =
        cl.done_later p e j l legal (cl.kill_sends_none l l e.reply (gives_order l e.reply here))
        (given_done p j l legal.0 (cl.unhalted_before e j none) e.lane e.call e.reply (v.entry_ruled p e j legal) here)
    by (inr before) ih = cl.done_later p e j l legal (unsent before (sent_on l e.reply) refl) (ih before)

-- ---- a Killed comes after the order, an Ended after the line's start

kills_is : (l : ℕ) (d : Call) → kills l d ≡ true → d ≡ call.Killed l
kills_is l (call.Killed k) h = (let e = eqb-true k l h in λ i. call.Killed (e i))
kills_is l _ h = absurd (cc)

ordered_newest : (j : List Entry) (l lane : ℕ) (d : Entry) → last_work j lane ≡ Some d → is_kill l d ≡ true → kill_ordered j l ≡ true
unfolding kill_ordered
ordered_newest j l lane d h y = o.newest_ever (is_kill l) j lane d h y

pub killed_ordered : (p : Plan) (j : List Entry) (l : ℕ) → Lawful p j → was_killed j l ≡ true → kill_ordered j l ≡ true
unfolding was_killed
killed_ordered p [] l legal h = absurd (cc)
killed_ordered p (e ∷ j) l legal h = cl.ordered_later e j l (elim (or_cases (kills l e.call) (was_killed j l) h) [
  | inl here ↦ (let answer = o.killed_answers p j e.lane l (subst (λ (d : Call). lw.in_script p j e.lane d ≡ true) (kills_is l e.call here) legal.1.scripted) in
      ordered_newest j l e.lane answer.order answer.newest answer.fits)
  | inr before ↦ killed_ordered p j l legal.0 before
])

takes_up : (p : Plan) (j : List Entry) (lane l : ℕ) (d : Call) (x : Reply) → u.Ruled p j lane d x → takes l x ≡ true → started j l ≡ true
takes_up p j lane l d x (u.Takes m here up new) h = subst (λ i. started j i ≡ true) (eqb-true m l h) up
takes_up p j lane l d x (u.KillsBroken m y here run broken over) h = absurd (cc)
takes_up p j lane l d x (u.Notes e n) h = absurd (cc)
takes_up p j lane l d x _ h = absurd (cc)

pub taken_started : (p : Plan) (j : List Entry) (l : ℕ) → Lawful p j → was_taken j l ≡ true → started j l ≡ true
unfolding was_taken
taken_started p [] l legal h = absurd (cc)
taken_started p (e ∷ j) l legal h = va.started_later e j l (elim (or_cases (takes l e.reply) (was_taken j l) h) [
  | inl here ↦ takes_up p j e.lane l e.call e.reply (v.entry_ruled p e j legal) here
  | inr before ↦ taken_started p j l legal.0 before
])

pub ended_started : (p : Plan) (j : List Entry) (l : ℕ) → Lawful p j → has_ended j l ≡ true → started j l ≡ true
ended_started p j l legal h = taken_started p j l legal (ta.ended_taken p j l legal h)

-- a line reports nothing once it has Ended
pub ended_once : (p : Plan) (e : Entry) (j : List Entry) (l : ℕ) (how : HowEnded) → Lawful p (e ∷ j) → e.call ≡ call.Ended l how → has_ended j l ≡ false
ended_once p e j l how legal is = ta.reported_running p e j l legal (rw is (eq-eqb l l refl))

pub answered_running : (p : Plan) (e : Entry) (j : List Entry) (l : ℕ) (x : Answer) → Lawful p (e ∷ j) → e.call ≡ call.Answer l x → has_ended j l ≡ false
answered_running p e j l x legal is = ta.reported_running p e j l legal (rw is (eq-eqb l l refl))
