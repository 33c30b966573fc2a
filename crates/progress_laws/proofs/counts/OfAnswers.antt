-- Of each attempt at most one answer is told that it is about the attempt's open request.
use Rattle.std.proofs.Common.{◌≡◌, ℕ, ◌==◌, ◌≤◌, Bool, true, false, ◌&&◌, ◌||◌, cond, List, [], ◌∷◌, Option, Some, None, is_some, inl, inr, refl, ap, ◌∙◌}
use Rattle.std.specs.Prelude.{count_by}
use Rattle.std.proofs.lemmas.Bool.{eq-eqb, or_cases, or_from, or_left, or_right}
use Rattle.run_plan.specs.declared.plan.Plan.{Plan}
use Rattle.exec_journal.specs.declared.attempt.Attempt.{Attempt}
use Rattle.exec_journal.specs.declared.call.Call.{Call}
use Rattle.exec_journal.specs.declared.call.Call.TheVariants as call
use Rattle.exec_journal.specs.declared.ends.Cause.TheVariants as cause
use Rattle.exec_journal.specs.declared.reply.BreachWhy.TheVariants as breach
use Rattle.exec_journal.specs.declared.reply.Reply.{Reply}
use Rattle.exec_journal.specs.declared.reply.Reply.TheVariants as reply
use Rattle.exec_journal.specs.Entry.{Entry}
use Rattle.exec_journal.specs.History.{ever}
use Rattle.exec_journal.specs.Entries.{Request, consumed_in, is_for}
use Rattle.exec_journal.specs.Lawful.{Lawful}
use Rattle.exec_journal.specs.Seated.{line_kind}
use Rattle.exec_journal.specs.Words.{answered, break_at, break_by, broke, line_cause, order_of}
use Rattle.exec_journal.proofs.Begins.{same_attempt_refl}
use Rattle.exec_journal.proofs.Ruled.{by_bool}
use Rattle.journal_laws.proofs.Carried as k
use Rattle.journal_laws.proofs.Claims.{clash, false_by}
use Rattle.journal_laws.proofs.Over as v
use Rattle.progress_laws.specs.Few.{is_noise, most_tries}
use Rattle.progress_laws.proofs.counts.Replies.{ClosesIt, Consumes, Refuses, Heard, Noise, Greets, Remarks, Closes, IsOpenOn, IsAnswered, answered_is}
use Rattle.progress_laws.proofs.counts.OfTries.{few_of_tries}
use Rattle.progress_laws.proofs.counts.Sent.{request_of, request_stays}
use Rattle.progress_laws.proofs.counts.Sorts.{is_answer, is_remark}
use Rattle.progress_laws.proofs.counts.Tallies.{IsFirst, Tells}
use Rattle.progress_laws.proofs.counts.Tries.{begun_among, tries}

-- ---- a breach breaks its line

abbrev pub breaches : Reply → Bool
breaches (reply.Breach y) = true
breaches _ = false

abbrev pub breaches_on : ℕ → Call → Reply → Bool
breaches_on l (call.Answer m x) y = (m == l) && breaches y
breaches_on l _ y = false

unfoldable pub was_breached : List Entry → ℕ → Bool
was_breached j l = ever (λ _ e. breaches_on l e.call e.reply) j

breach_breaks : (i : List Entry) (o : Option Request) (l : ℕ) (d : Call) (y : Reply)
    → breaches_on l d y ≡ true → is_some (break_by i o l d y) ≡ true
breach_breaks i o l (call.Answer m x) (reply.Breach w) h =
    by_bool (m == l) (λ b. (b && true) ≡ true → is_some (cond b (Some cause.Breach) None) ≡ true)
    (λ _ _. refl) (λ _ n. absurd (cc)) h
breach_breaks i o l (call.Answer m x) _ h = absurd (off (m == l) h)
  where
    off : (b : Bool) → (b && false) ≡ true → ⊥
    off true n = cc
    off false n = cc
breach_breaks i o l _ y h = absurd (cc)

pub breached_broke : (j : List Entry) (l : ℕ) → was_breached j l ≡ true → broke j l ≡ true
unfolding was_breached line_cause
breached_broke [] l h = absurd (cc)
breached_broke (e ∷ j) l h = elim (or_cases (breaches_on l e.call e.reply) (was_breached j l) h) [
  | inl here ↦ k.some_new_cause (break_at l j e) (line_cause j l)
      (breach_breaks j (order_of j e.lane) l e.call e.reply here)
  | inr before ↦ k.some_later_cause (break_at l j e) (line_cause j l) (breached_broke j l before)
]

pub breached_later : (e : Entry) (j : List Entry) (l : ℕ) → was_breached j l ≡ true
    → was_breached (e ∷ j) l ≡ true
unfolding was_breached
breached_later e j l h = or_right (breaches_on l e.call e.reply) _ h

-- ---- what was said of an attempt's request

abbrev breached_by : List Entry → Option Request → Bool
breached_by j (Some x) = was_breached j x.line
breached_by j None = false

-- it was answered, or a breach broke its line
closed : List Entry → Attempt → Bool
closed j t = answered j t || breached_by j (request_of j t)

answered_later : (e : Entry) (j : List Entry) (t : Attempt) → answered j t ≡ true
    → answered (e ∷ j) t ≡ true
unfolding answered
answered_later e j t h = or_right (is_for t (consumed_in e.reply)) _ h

answered_here : (e : Entry) (j : List Entry) (t : Attempt) → consumed_in e.reply ≡ Some t
    → answered (e ∷ j) t ≡ true
unfolding answered
answered_here e j t h = or_left (is_for t (consumed_in e.reply)) _ (ap (is_for t) h
    ∙ same_attempt_refl t)

by_later : (p : Plan) (e : Entry) (j : List Entry) (t : Attempt) → Lawful p (e ∷ j)
    → (o : Option Request) → request_of j t ≡ o
    → breached_by j o ≡ true → breached_by (e ∷ j) (request_of (e ∷ j) t) ≡ true
by_later p e j t legal None is h = absurd (cc)
by_later p e j t legal (Some x) is h = ap (breached_by (e ∷ j)) (request_stays p e j t x legal is)
    ∙ breached_later e j x.line h

closed_later : (p : Plan) (e : Entry) (j : List Entry) (t : Attempt) → Lawful p (e ∷ j)
    → closed j t ≡ true → closed (e ∷ j) t ≡ true
unfolding closed
closed_later p e j t legal h = elim (or_cases (answered j t) _ h) [
  | inl done ↦ or_left _ _ (answered_later e j t done)
  | inr off ↦ or_right (answered (e ∷ j) t) _ (by_later p e j t legal (request_of j t) refl off)
]

-- nothing was said of a pending request of an unbroken line
unclosed : (j : List Entry) (l : ℕ) (x : Request) → broke j l ≡ false → IsOpenOn j l x
    → closed j x.attempt ≡ false
unfolding closed
unclosed j l x whole is =
    or_from _ _ (v.pending_unanswered j x is.unclosed)
    (ap (breached_by j) is.asked.own ∙ ap (was_breached j) is.asked.on.line
    ∙ false_by _ (λ h. clash (broke j l) (breached_broke j l h) whole))

closes_now : (p : Plan) (e : Entry) (j : List Entry) (l : ℕ) (x : Request) → Lawful p (e ∷ j)
    → breaches_on l e.call (reply.Breach breach.NotCancelled) ≡ true
    → IsOpenOn j l x → (y : Reply) → e.reply ≡ y → ClosesIt x.attempt y
    → closed (e ∷ j) x.attempt ≡ true
unfolding closed was_breached
closes_now p e j l x legal on is y same (Consumes z h) =
    or_left _ _ (answered_here e j x.attempt (ap consumed_in same ∙ h))
closes_now p e j l x legal on is y same Refuses =
    or_right (answered (e ∷ j) x.attempt) _
    (ap (breached_by (e ∷ j)) (request_stays p e j x.attempt x legal is.asked.own)
    ∙ ap (was_breached (e ∷ j)) is.asked.on.line
    ∙ or_left (breaches_on l e.call e.reply) _ (ap (breaches_on l e.call) same ∙ on))

first_answer : (p : Plan) → 1 ≤ p.limit → (e : Entry) (j : List Entry) → Lawful p (e ∷ j)
    → is_answer e.reply ≡ true → IsFirst (tries p) closed j e
first_answer p least e j legal h = by e.reply refl h is.heard
  where
    is : IsAnswered p j e
    is = answered_is p e j legal (or_right _ (is_answer e.reply) h)

    on : breaches_on is.line e.call (reply.Breach breach.NotCancelled) ≡ true
    on = ap (λ (d : Call). breaches_on is.line d (reply.Breach breach.NotCancelled)) is.is
        ∙ ap (λ b. b && true) (eq-eqb is.line is.line refl)

    quiet : (y : Reply) → is_noise y ≡ true → is_answer y ≡ true → ⊥
    quiet (reply.Stray w) n a = cc
    quiet (reply.Breach breach.Broken) n a = cc
    quiet _ n a = cc

    by : (y : Reply) → e.reply ≡ y → is_answer y ≡ true → Heard j (line_kind p j is.line) is.line y
        → IsFirst (tries p) closed j e
    by y same a (Noise z n) = absurd (quiet z n a)
    by y same a (Greets whole first) = absurd (cc)
    by y same a (Remarks z whole one r) = absurd (unlike z r a)
      where
        unlike : (z : Reply) → is_remark z ≡ true → is_answer z ≡ true → ⊥
        unlike reply.Greeted r a = cc
        unlike (reply.Breach breach.WrongNumber) r a = cc
        unlike (reply.Breach breach.Unasked) r a = cc
        unlike _ r a = cc
    by y same a (Closes x z whole open_now closes) = record {
      thing = x.attempt;
      among = begun_among p j x.attempt least legal.0
          (k.sent_begun j x.attempt open_now.asked.on.sent);
      before = unclosed j is.line x whole open_now;
      now = closes_now p e j is.line x legal on open_now z same closes;
    }

pub answers_few : (p : Plan) → 1 ≤ p.limit → (j : List Entry) → Lawful p j
    → count_by (λ e. is_answer e.reply) j ≤ most_tries p
answers_few p least = few_of_tries p (λ e. is_answer e.reply) closed one
  where
    one : (e : Entry) (j : List Entry) → Lawful p (e ∷ j)
        → Tells (tries p) (λ d. is_answer d.reply) closed j e
    one e j legal = record {
      stays = λ t h. closed_later p e j t legal h;
      first = λ h. first_answer p least e j legal h;
    }
