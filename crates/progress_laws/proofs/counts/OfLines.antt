-- Of each line there is at most one Kill, one Line, one Ended, and one greeting or answer with
-- which it breaks and which is about no request.
use Rattle.std.proofs.Common.{◌≡◌, ℕ, ◌+◌, ◌/◌, ◌≤◌, ◌==◌, Bool, true, false, ◌&&◌, ◌||◌, List, [], ◌∷◌, length, Option, Some, None, is_some, ◌⊎◌, inl, inr, refl, sym, ap, subst, ◌∙◌, arith}
use Rattle.std.specs.Prelude.{count_by}
use Rattle.std.proofs.lemmas.Bool.{and_from, and_parts, eq-eqb, or_cases, or_left, or_right}
use Rattle.run_plan.specs.declared.plan.Kind.{Kind}
use Rattle.run_plan.specs.declared.plan.Kind.TheVariants as kind
use Rattle.run_plan.specs.declared.plan.Plan.{Plan}
use Rattle.run_plan.specs.Groups.{is_remote, is_single}
use Rattle.list_lemmas.specs.Options.{and_more}
use Rattle.exec_journal.specs.declared.attempt.Attempt.{Attempt}
use Rattle.exec_journal.specs.declared.call.Call.{Call}
use Rattle.exec_journal.specs.declared.call.Call.TheVariants as call
use Rattle.exec_journal.specs.declared.call.HowEnded.{HowEnded}
use Rattle.exec_journal.specs.declared.reply.BreachWhy.TheVariants as breach
use Rattle.exec_journal.specs.declared.reply.Reply.{Reply}
use Rattle.exec_journal.specs.declared.reply.Reply.TheVariants as reply
use Rattle.exec_journal.specs.Entry.{Entry}
use Rattle.exec_journal.specs.History.{each, ever}
use Rattle.exec_journal.specs.Entries.{ends, greets, launch_in, orders_kill, speaks, takes}
use Rattle.exec_journal.specs.Facts.{IsOfBerth, OfBerth, call_line, reply_line}
use Rattle.exec_journal.specs.Lawful.{Lawful}
use Rattle.exec_journal.specs.Seated.{line_kind}
use Rattle.exec_journal.specs.Words.{broke, has_ended, has_greeted, has_spoken, kill_ordered, line_count, was_taken}
use Rattle.exec_journal.proofs.Lines.{lines_named}
use Rattle.journal_laws.proofs.Claims as c
use Rattle.journal_laws.proofs.Claims.{clash, false_by}
use Rattle.journal_laws.proofs.Given as gi
use Rattle.journal_laws.proofs.Greeted as gr
use Rattle.journal_laws.proofs.Lanes as la
use Rattle.journal_laws.proofs.Over as v
use Rattle.journal_laws.proofs.Taps as ta
use Rattle.progress_laws.specs.Few.{is_noise, most_tries}
use Rattle.progress_laws.proofs.counts.Replies.{Heard, Noise, Greets, Remarks, Closes, ClosesIt, Consumes, Refuses, IsAnswered, answered_is}
use Rattle.progress_laws.proofs.counts.OfAnswers.{breaches_on, breached_broke, was_breached}
use Rattle.progress_laws.proofs.counts.OfTries.{launches_few}
use Rattle.progress_laws.proofs.counts.Sorts.{gives_line, is_end, is_kill, is_remark}
use Rattle.progress_laws.proofs.counts.Tallies.{IsAmong, IsFirst, Tells, among_numbers, bit, count-cons, each_lawful, few, numbers, numbers_length}

-- ---- there are no more lines than attempts

launches_length : (j : List Entry)
    → length (each (λ _ e. launch_in e.reply) j) ≡ count_by (λ e. is_some (launch_in e.reply)) j
launches_length [] = refl
launches_length (e ∷ j) = by (launch_in e.reply) (launches_length j)
    (count-cons (λ (d : Entry). is_some (launch_in d.reply)) e j)
  where
    by : (o : Option (ℕ × Attempt))
        → length (each (λ _ d. launch_in d.reply) j) ≡ count_by (λ d. is_some (launch_in d.reply)) j
        → count_by (λ d. is_some (launch_in d.reply)) (e ∷ j)
        ≡ bit (is_some o) + count_by (λ d. is_some (launch_in d.reply)) j
        → length (and_more o (each (λ _ d. launch_in d.reply) j))
        ≡ count_by (λ d. is_some (launch_in d.reply)) (e ∷ j)
    by None ih count = omega (arith, ih, count)
    by (Some x) ih count = omega (arith, ih, count)

pub lines_few : (p : Plan) → 1 ≤ p.limit → (j : List Entry) → Lawful p j
    → line_count j ≤ most_tries p
unfolding line_count
lines_few p least j legal =
    subst (λ n. n ≤ most_tries p) (sym (launches_length j)) (launches_few p least j legal)

-- the lines that there may be
lines : Plan → List ℕ
lines p = numbers (most_tries p)

line_among : (p : Plan) → 1 ≤ p.limit → (j : List Entry) (l w : ℕ) → Lawful p j → IsOfBerth j l w
    → IsAmong l (lines p)
unfolding lines
line_among p least j l w legal own =
    let most = lines_few p least j legal in
    among_numbers l (most_tries p) (omega (arith, most, own.below))

few_of_lines : (p : Plan) (kind : Entry → Bool) (seen : List Entry → ℕ → Bool)
    → ((e : Entry) (j : List Entry) → Lawful p (e ∷ j) → Tells (lines p) kind seen j e)
    → (j : List Entry) → Lawful p j → count_by kind j ≤ most_tries p
unfolding lines
few_of_lines p kind seen tell j legal =
    subst (λ n. count_by kind j ≤ n) (numbers_length (most_tries p))
    (few (lines p) kind seen j (each_lawful p (Tells (lines p) kind seen) tell j legal))

-- ---- Kills

kill_here : (e : Entry) (j : List Entry) (l : ℕ) → orders_kill l e.reply ≡ true
    → kill_ordered (e ∷ j) l ≡ true
unfolding kill_ordered
kill_here e j l h = or_left (orders_kill l e.reply) _ h

kill_later : (e : Entry) (j : List Entry) (l : ℕ) → kill_ordered j l ≡ true
    → kill_ordered (e ∷ j) l ≡ true
unfolding kill_ordered
kill_later e j l h = or_right (orders_kill l e.reply) _ h

killed_line : (y : Reply) → is_kill y ≡ true → (l : ℕ) × (orders_kill l y ≡ true)
killed_line (reply.Kill l w) h = (l, eq-eqb l l refl)
killed_line _ h = absurd (cc)

pub kills_few : (p : Plan) → 1 ≤ p.limit → (j : List Entry) → Lawful p j
    → count_by (λ e. is_kill e.reply) j ≤ most_tries p
kills_few p least = few_of_lines p (λ e. is_kill e.reply) kill_ordered one
  where
    one : (e : Entry) (j : List Entry) → Lawful p (e ∷ j)
        → Tells (lines p) (λ d. is_kill d.reply) kill_ordered j e
    one e j legal = record {
      stays = λ l h. kill_later e j l h;
      first = λ h.
          let x = killed_line e.reply h in
          let once = la.kills_once p e j x.0 legal x.1 in
          record {
            thing = x.0;
            among = line_among p least j x.0 (e.lane / 2) legal.0
                (la.here_own p j (e.lane / 2) x.0 legal.0 once.here);
            before = once.first;
            now = kill_here e j x.0 x.1;
          };
    }

-- ---- Lines

taken_here : (e : Entry) (j : List Entry) (l : ℕ) → e.reply ≡ reply.Line l
    → was_taken (e ∷ j) l ≡ true
unfolding was_taken
taken_here e j l h = or_left (takes l e.reply) _ (ap (takes l) h ∙ eq-eqb l l refl)

taken_later : (e : Entry) (j : List Entry) (l : ℕ) → was_taken j l ≡ true
    → was_taken (e ∷ j) l ≡ true
unfolding was_taken
taken_later e j l h = or_right (takes l e.reply) _ h

given_line : (y : Reply) → gives_line y ≡ true → (l : ℕ) × (y ≡ reply.Line l)
given_line (reply.Line l) h = (l, refl)
given_line _ h = absurd (cc)

pub gifts_few : (p : Plan) → 1 ≤ p.limit → (j : List Entry) → Lawful p j
    → count_by (λ e. gives_line e.reply) j ≤ most_tries p
gifts_few p least = few_of_lines p (λ e. gives_line e.reply) was_taken one
  where
    one : (e : Entry) (j : List Entry) → Lawful p (e ∷ j)
        → Tells (lines p) (λ d. gives_line d.reply) was_taken j e
    one e j legal = record {
      stays = λ l h. taken_later e j l h;
      first = λ h.
          let x = given_line e.reply h in
          record {
            thing = x.0;
            among = line_among p least (e ∷ j) x.0 (e.lane / 2) legal
                (subst (λ (y : Reply). OfBerth (e ∷ j) (reply_line y) (e.lane / 2)) x.1
                (lines_named p (e ∷ j) legal).1.replied);
            before = (ta.take_line p j e.lane x.0 e.call e.reply (v.entry_ruled p e j legal) x.1).1;
            now = taken_here e j x.0 x.1;
          };
    }

-- ---- Endeds

ended_here : (e : Entry) (j : List Entry) (l : ℕ) → ends l e.call ≡ true
    → has_ended (e ∷ j) l ≡ true
unfolding has_ended
ended_here e j l h = or_left (ends l e.call) _ h

ended_line : (d : Call) → is_end d ≡ true → (l : ℕ) × (how : HowEnded) × (d ≡ call.Ended l how)
ended_line (call.Ended l how) h = (l, how, refl)
ended_line _ h = absurd (cc)

pub ends_few : (p : Plan) → 1 ≤ p.limit → (j : List Entry) → Lawful p j
    → count_by (λ e. is_end e.call) j ≤ most_tries p
ends_few p least = few_of_lines p (λ e. is_end e.call) has_ended one
  where
    one : (e : Entry) (j : List Entry) → Lawful p (e ∷ j)
        → Tells (lines p) (λ d. is_end d.call) has_ended j e
    one e j legal = record {
      stays = λ l h. v.ended_line_stays e j l h;
      first = λ h.
          let x = ended_line e.call h in
          record {
            thing = x.0;
            among = line_among p least j x.0 (e.lane / 2) legal.0
                (subst (λ (d : Call). OfBerth j (call_line d) (e.lane / 2)) x.2
                (lines_named p (e ∷ j) legal).1.called);
            before = gi.ended_once p e j x.0 x.1 legal x.2;
            now = ended_here e j x.0 (ap (ends x.0) x.2 ∙ eq-eqb x.0 x.0 refl);
          };
    }

-- ---- greetings, and answers about no request

abbrev remarks_on : ℕ → Call → Reply → Bool
remarks_on l (call.Answer m x) y = (m == l) && is_remark y
remarks_on l _ y = false

was_remarked : List Entry → ℕ → Bool
was_remarked j l = ever (λ _ e. remarks_on l e.call e.reply) j

remarked_later : (e : Entry) (j : List Entry) (l : ℕ) → was_remarked j l ≡ true
    → was_remarked (e ∷ j) l ≡ true
unfolding was_remarked
remarked_later e j l h = or_right (remarks_on l e.call e.reply) _ h

remarked_here : (e : Entry) (j : List Entry) (l : ℕ) → remarks_on l e.call e.reply ≡ true
    → was_remarked (e ∷ j) l ≡ true
unfolding was_remarked
remarked_here e j l h = or_left (remarks_on l e.call e.reply) _ h

remark_speaks : (l : ℕ) (d : Call) (y : Reply) → remarks_on l d y ≡ true → speaks l d ≡ true
remark_speaks l (call.Answer m x) y h = (and_parts (m == l) _ h).0
remark_speaks l _ y h = absurd (cc)

remarked_spoken : (j : List Entry) (l : ℕ) → was_remarked j l ≡ true → has_spoken j l ≡ true
unfolding was_remarked has_spoken
remarked_spoken j l h = c.ever_map (λ e. remarks_on l e.call e.reply) (λ e. speaks l e.call)
    (λ e y. remark_speaks l e.call e.reply y) j h

remark_is : (l : ℕ) (d : Call) (y : Reply) → remarks_on l d y ≡ true
    → (greets l d y || breaches_on l d y) ≡ true
remark_is l (call.Answer m x) reply.Greeted h = or_left (m == l) _ (and_parts (m == l) _ h).0
remark_is l (call.Answer m x) (reply.Breach breach.WrongNumber) h = h
remark_is l (call.Answer m x) (reply.Breach breach.Unasked) h = h
remark_is l (call.Answer m x) _ h = absurd (let n = (and_parts (m == l) _ h).1 in cc)
remark_is l _ y h = absurd (cc)

greeted_or_broke : (j : List Entry) (l : ℕ) → was_remarked j l ≡ true → (has_greeted j l ≡ true)
    ⊎ (was_breached j l ≡ true)
unfolding was_remarked has_greeted was_breached
greeted_or_broke [] l h = absurd (cc)
greeted_or_broke (e ∷ j) l h = elim (or_cases (remarks_on l e.call e.reply) (was_remarked j l) h) [
  | inl here ↦ elim (or_cases (greets l e.call e.reply) _ (remark_is l e.call e.reply here)) [
    | inl a ↦ inl (or_left (greets l e.call e.reply) _ a)
    | inr b ↦ inr (or_left (breaches_on l e.call e.reply) _ b)
  ]
  | inr before ↦ elim (greeted_or_broke j l before) [
    | inl a ↦ inl (or_right (greets l e.call e.reply) _ a)
    | inr b ↦ inr (or_right (breaches_on l e.call e.reply) _ b)
  ]
]

remote_many : (k : Kind) → is_remote k ≡ true → is_single k ≡ true → ⊥
remote_many kind.Remote h one = cc
remote_many _ h one = cc

unremarked : (p : Plan) (j : List Entry) (l : ℕ) → Lawful p j → broke j l ≡ false
    → is_single (line_kind p j l) ≡ true → was_remarked j l ≡ false
unremarked p j l legal whole one = false_by _ (λ h. elim (greeted_or_broke j l h) [
  | inl greeted ↦ remote_many (line_kind p j l) (gr.greeted_remote p j l legal greeted) one
  | inr broken ↦ clash (broke j l) (breached_broke j l broken) whole
])

first_remark : (p : Plan) → 1 ≤ p.limit → (e : Entry) (j : List Entry) → Lawful p (e ∷ j)
    → is_remark e.reply ≡ true → IsFirst (lines p) was_remarked j e
first_remark p least e j legal h = record {
  thing = is.line;
  among = line_among p least j is.line (e.lane / 2) legal.0
      (subst (λ (d : Call). OfBerth j (call_line d) (e.lane / 2)) is.is
      (lines_named p (e ∷ j) legal).1.called);
  before = by e.reply h is.heard;
  now = remarked_here e j is.line (ap (λ (d : Call). remarks_on is.line d e.reply) is.is
      ∙ and_from _ _ (eq-eqb is.line is.line refl) h);
}
  where
    is : IsAnswered p j e
    is = answered_is p e j legal (or_left (is_remark e.reply) _ h)

    quiet : (y : Reply) → is_noise y ≡ true → is_remark y ≡ true → ⊥
    quiet (reply.Stray w) n a = cc
    quiet (reply.Breach breach.Broken) n a = cc
    quiet _ n a = cc

    unlike : (t : Attempt) (y : Reply) → ClosesIt t y → is_remark y ≡ true → ⊥
    unlike t reply.Greeted (Consumes z n) r = cc
    unlike t (reply.Breach w) (Consumes z n) r = cc
    unlike t _ (Consumes z n) r = cc
    unlike t _ Refuses r = cc

    by : (y : Reply) → is_remark y ≡ true → Heard j (line_kind p j is.line) is.line y
        → was_remarked j is.line ≡ false
    by y r (Noise z n) = absurd (quiet z n r)
    by y r (Greets whole first) =
        false_by _ (λ old. clash (has_spoken j is.line) (remarked_spoken j is.line old) first)
    by y r (Remarks z whole one s) = unremarked p j is.line legal.0 whole one
    by y r (Closes x z whole open_now closes) = absurd (unlike x.attempt z closes r)

pub remarks_few : (p : Plan) → 1 ≤ p.limit → (j : List Entry) → Lawful p j
    → count_by (λ e. is_remark e.reply) j ≤ most_tries p
remarks_few p least = few_of_lines p (λ e. is_remark e.reply) was_remarked one
  where
    one : (e : Entry) (j : List Entry) → Lawful p (e ∷ j)
        → Tells (lines p) (λ d. is_remark d.reply) was_remarked j e
    one e j legal = record {
      stays = λ l h. remarked_later e j l h;
      first = λ h. first_remark p least e j legal h;
    }
