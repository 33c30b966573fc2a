-- Where every worker did its part and no lane halted, no attempt ends, and at Stop every action has success.
use Rattle.std.proofs.Common.{◌≡◌, ℕ, zero, suc, ◌+◌, ◌/◌, ◌==◌, nat_lt, Bool, true, false, ◌&&◌, ◌||◌, not, cond, List, [], ◌∷◌, ◌++◌, length, Option, Some, None, is_some, option_map, unwrap_or, ◌⊎◌, inl, inr, refl, sym, ap, subst, ◌∙◌, ℤ, pos, arith}
use Rattle.std.specs.Prelude.{slice_get}
use Rattle.std.specs.List.{list_any, filter, find}
use Rattle.std.specs.Ordering.{int_eq}
use Rattle.std.proofs.lemmas.Bool.{eqb-true, eq-eqb, ltb-true, ltb-false, and_parts, and_from, or_cases, or_left, or_right, or_parts}
use Rattle.std.proofs.lemmas.Bool.Decides.{Decides-int_eq}
use Rattle.run_plan.specs.declared.plan.Branch.{Branch}
use Rattle.run_plan.specs.declared.plan.Branch.TheVariants.{Local, Remote}
use Rattle.run_plan.specs.declared.plan.Maker.{Maker}
use Rattle.run_plan.specs.declared.plan.Plan.{Plan}
use Rattle.run_plan.specs.declared.plan.PlanAction.{PlanAction}
use Rattle.exec_journal.specs.declared.attempt.Attempt.{Attempt}
use Rattle.exec_journal.specs.Entry.{Entry}
use Rattle.exec_journal.specs.declared.ends.Cause.{Cause}
use Rattle.exec_journal.specs.declared.ends.Outcome.{Outcome}
use Rattle.exec_journal.specs.declared.ends.Standing.{Standing}
use Rattle.exec_journal.specs.declared.ends.Standing.TheVariants.{Open, Succeeded}
use Rattle.exec_journal.specs.declared.call.Answer.{Answer}
use Rattle.exec_journal.specs.declared.call.Call.{Call}
use Rattle.exec_journal.specs.declared.call.Call.TheVariants as call
use Rattle.exec_journal.specs.declared.call.Started.TheVariants as start
use Rattle.exec_journal.specs.declared.call.HowEnded.{HowEnded}
use Rattle.exec_journal.specs.declared.call.Found.{Found}
use Rattle.exec_journal.specs.declared.call.Found.TheVariants as found
use Rattle.exec_journal.specs.declared.call.CommitEnd.{CommitEnd}
use Rattle.exec_journal.specs.declared.call.CommitEnd.TheVariants as commit
use Rattle.exec_journal.specs.declared.call.Written.{Written}
use Rattle.exec_journal.specs.declared.call.Written.TheVariants as write
use Rattle.exec_journal.specs.declared.reply.Reply.{Reply}
use Rattle.exec_journal.specs.declared.reply.Reply.TheVariants as reply
use Rattle.exec_journal.specs.declared.reply.BreachWhy.TheVariants as breach
use Rattle.list_lemmas.specs.Options.{unless_before}
use Rattle.exec_journal.specs.Entries.{Request, attempt_of, same_attempt, same_branch, is_for, launch_in, send_in, orders_kill, ends, granted_in, committed_in, launch_of_entry, send_of_entry}
use Rattle.exec_journal.specs.Words.{last_work, line_count, launch_of, sends, sent_on, pending, is_pending, was_sent, answered, wrote, wrote_at, says_unwritten, says_feed_fault, has_ended, has_cancel, kill_ordered, line_cause, broke, break_at, break_by, order_of, granted, grant_of, commit_of, halted}
use Rattle.exec_journal.specs.Attempts.{line_of, carrier_in, end_of, fault_by, ended, dropped}
use Rattle.exec_journal.specs.Settled.{is_settled, is_unsuccessful, by_commit, by_grant, all_dropped, is_starved, standing_after, standings_from, standings, settled, all_settled, wanted, bound}
use Rattle.run_plan.specs.Groups.{is_single}
use Rattle.exec_journal.specs.Lawful as lw
use Rattle.exec_journal.specs.Seated.{line_kind}
use Rattle.exec_journal.specs.Rules as r
use Rattle.exec_journal.specs.Rules.{is_unwanted}
use Rattle.exec_journal.specs.Clean.{is_asked, clean_at, Clean}
use Rattle.exec_journal.specs.Outcomes.{outcome_of, grant_outcome, commit_outcome, is_ok}
use Rattle.run_plan.specs.Sound.{Sound, has_branches, is_sound_action, are_sound_from}
use Rattle.exec_journal.specs.Lawful.{Lawful}
use Rattle.exec_journal.specs.Facts.{begun, call_line, IsOfBerth, OfBerth}
use Rattle.journal_laws.specs.Invariant.{IsGoing, NumberedAs, older, EachRequest, LineFacts, EndsWith, ByFault, ByEnd, ByFeed, is_left}
use Rattle.journal_laws.specs.Steps.{is_needed, IsDone}
use Rattle.exec_journal.proofs.Histories.{AllOf}
use Rattle.exec_journal.proofs.Reasons as u
use Rattle.exec_journal.proofs.Ruled.{by_bool, not_true}
use Rattle.exec_journal.proofs.Lines.{lines_named, launch_stays, of_berth_more}
use Rattle.exec_journal.proofs.Begins.{same_attempt_refl, same_attempt_eq, begin_in_order, bound_is, wanted_is, launched_begun}
use Rattle.journal_laws.proofs.Fresh.{fresh}
use Rattle.exec_journal.proofs.Begins as bg
use Rattle.journal_laws.proofs.Carried as k
use Rattle.journal_laws.proofs.Over as v
use Rattle.journal_laws.proofs.Claims as c
use Rattle.journal_laws.proofs.Claims.{clash, false_by}
use Rattle.journal_laws.proofs.Granted as g
use Rattle.journal_laws.proofs.Races as ra
use Rattle.journal_laws.proofs.Firm as f
use Rattle.journal_laws.proofs.Requests as q
use Rattle.journal_laws.proofs.Vacant as va
use Rattle.journal_laws.proofs.Stops as st
use Rattle.journal_laws.proofs.Endings as en
use Rattle.journal_laws.proofs.Lanes as la
use Rattle.journal_laws.proofs.Taps as ta

-- ---- no fault, and each Wrote says Done

either_none : (b : Bool) (o : Option Cause) → o ≡ None → cond b o None ≡ None
either_none true o h = h
either_none false o h = refl

no_refusal : (t : Attempt) (a : ℕ) (b : Branch) (n : ℕ) (fs : List (List ℕ)) (x : Reply) → fault_by t None (call.Claim a b n (found.Files fs)) x ≡ None
no_refusal t a b n fs reply.AgainLater = either_none (same_attempt (attempt_of a b n) t) None refl
no_refusal t a b n fs reply.Dropped = either_none (same_attempt (attempt_of a b n) t) None refl
no_refusal t a b n fs _ = refl

fault_none : (t : Attempt) (j : List Entry) (w : Option Entry) (d : Call) (x : Reply) → clean_at j d x ≡ true → fault_by t w d x ≡ None
fault_none t j w (call.Launched l start.Done) x h = either_none (is_for t (launch_of_entry w)) None refl
fault_none t j w (call.Launched l start.RoomFault) x h = absurd (cc)
fault_none t j w (call.Launched l start.LaunchFault) x h = absurd (cc)
fault_none t j w (call.Wrote l n write.Done) x h = either_none (is_for t (option_map (λ y. y.attempt) (send_of_entry w))) None refl
fault_none t j w (call.Wrote l n _) x h = absurd (cc)
fault_none t j w (call.Claim a b n (found.Files fs)) x h = no_refusal t a b n fs x
fault_none t j w (call.Claim a b n _) x h = absurd (cc)
fault_none t j w call.Ask x h = refl
fault_none t j w call.Tick x h = refl
fault_none t j w (call.Look y) x h = refl
fault_none t j w (call.Committed a b how) x h = refl
fault_none t j w (call.Killed l) x h = refl
fault_none t j w call.Take x h = refl
fault_none t j w (call.Answer l y) x h = refl
fault_none t j w (call.Ended l how) x h = refl
fault_none t j w call.Halt x h = refl

clean_wrote : (j : List Entry) (e : Entry) (t : Attempt) (y : Written) → clean_at j e.call e.reply ≡ true → wrote_at t j e ≡ Some y → y ≡ write.Done
clean_wrote j e t y h at = let it = c.wrote_at_is j e t y at in by y it.line it.number (subst (λ (d : Call). clean_at j d e.reply ≡ true) it.is h)
  where
    by : (y : Written) (l : ℕ) (n : ℤ) → clean_at j (call.Wrote l n y) e.reply ≡ true → y ≡ write.Done
    by write.Done l n k = refl
    by write.RoomFault l n k = absurd (cc)
    by write.TooLarge l n k = absurd (cc)
    by write.FeedFault l n k = absurd (cc)

-- a request's Wrote is Done or isn't there yet
pub IsWritten : Option Written → Type 0
IsWritten o = (says_unwritten o ≡ false) × (says_feed_fault o ≡ false)

pub all_written : (j : List Entry) (t : Attempt) → Clean j → IsWritten (wrote j t)
unfolding wrote IsWritten
all_written [] t clean = (refl, refl)
all_written (e ∷ j) t clean = by (wrote_at t j e) refl (wrote j t) (all_written j t clean.0)
  where
    by : (n : Option Written) → wrote_at t j e ≡ n → (o : Option Written) → (says_unwritten o ≡ false) × (says_feed_fault o ≡ false)
        → (says_unwritten (unless_before n o) ≡ false) × (says_feed_fault (unless_before n o) ≡ false)
    by None is o h = h
    by (Some y) is (Some w) h = h
    by (Some y) is None h = (let d = clean_wrote j e t y clean.1 is in subst (λ (z : Written). (says_unwritten (Some z) ≡ false) × (says_feed_fault (Some z) ≡ false)) (sym d) (refl, refl))

written_feed : (o : Option Written) → IsWritten o → says_feed_fault o ≡ false
unfolding IsWritten
written_feed o h = h.1

written_whole : (o : Option Written) → IsWritten o → says_unwritten o ≡ false
unfolding IsWritten
written_whole o h = h.0

-- ---- a clean answer is no Breach

any_in : (P : Request → Type 0) (test : Request → Bool) (xs : List Request) → AllOf P xs → list_any test xs ≡ true → (x : Request) × (P x) × (test x ≡ true)
any_in P test [] all h = absurd (cc)
any_in P test (x ∷ xs) all h = elim (or_cases (test x) _ h) [ inl here ↦ (x, all.0, here) | inr more ↦ any_in P test xs all.1 more ]

-- where only the first can pass, it is the one that does
any_first : (P : Request → Type 0) (test : Request → Bool) (qs : List Request) → AllOf P qs → EachRequest (λ x. test x ≡ false) (older qs) → list_any test qs ≡ true → (x : Request) × (r.head qs ≡ Some x) × (P x) × (test x ≡ true)
any_first P test [] all closed h = absurd (cc)
any_first P test (x ∷ qs) all closed h = elim (or_cases (test x) _ h) [
  | inl here ↦ (x, refl, all.0, here)
  | inr more ↦ absurd (none qs closed more)
]
  where
    none : (ys : List Request) → EachRequest (λ y. test y ≡ false) ys → list_any test ys ≡ true → ⊥
    none [] c m = cc
    none (y ∷ ys) c m = elim (or_cases (test y) _ m) [ inl a ↦ clash (test y) a c.0 | inr b ↦ none ys c.1 b ]

-- numbers are different: the first with the number is the one that passes
any_number : (P : Request → Type 0) (test : Request → Bool) (z : ℤ) (qs : List Request) → AllOf P qs → NumberedAs false qs → list_any (λ x. int_eq x.number z && test x) qs ≡ true
    → (x : Request) × (find (λ y. int_eq y.number z) qs ≡ Some x) × (P x) × (test x ≡ true)
any_number P test z [] all numbers h = absurd (cc)
any_number P test z (x ∷ qs) all numbers h =
    by_bool (int_eq x.number z) (λ b. int_eq x.number z ≡ b → (y : Request) × (cond b (Some x) (find (λ w. int_eq w.number z) qs) ≡ Some y) × (P y) × (test y ≡ true))
    (λ _ same. elim (or_cases (int_eq x.number z && test x) _ h) [
      | inl here ↦ (x, refl, all.0, (and_parts (int_eq x.number z) _ here).1)
      | inr more ↦ (let n : z ≡ pos (length qs + 1) = sym ((Decides-int_eq x.number z).0 same) ∙ numbers.0 in
          let none = q.fewer qs (length qs + 1) z numbers.1 (omega arith) n in
          let w = any_in (λ _. Unit {0}) (λ y. int_eq y.number z && test y) qs (every qs) more in
          absurd (clash _ (any_and qs more) (none_long qs none)))
    ])
    (λ _ off. elim (or_cases (int_eq x.number z && test x) _ h) [
      | inl here ↦ absurd (clash _ (and_parts (int_eq x.number z) _ here).0 off)
      | inr more ↦ any_number P test z qs all.1 numbers.1 more
    ]) refl
  where
    every : (ys : List Request) → AllOf (λ _. Unit {0}) ys
    every [] = tt
    every (y ∷ ys) = (tt, every ys)

    any_and : (ys : List Request) → list_any (λ y. int_eq y.number z && test y) ys ≡ true → list_any (λ y. int_eq y.number z) ys ≡ true
    any_and [] m = absurd (cc)
    any_and (y ∷ ys) m = elim (or_cases (int_eq y.number z && test y) _ m) [ inl a ↦ or_left _ _ (and_parts (int_eq y.number z) _ a).0 | inr b ↦ or_right (int_eq y.number z) _ (any_and ys b) ]

    none_long : (ys : List Request) → length (filter (λ y. int_eq y.number z) ys) ≡ 0 → list_any (λ y. int_eq y.number z) ys ≡ false
    none_long [] m = refl
    none_long (y ∷ ys) m =
        by_bool (int_eq y.number z) (λ b. length (cond b (y ∷ filter (λ w. int_eq w.number z) ys) (filter (λ w. int_eq w.number z) ys)) ≡ 0 → (b || list_any (λ w. int_eq w.number z) ys) ≡ false) (λ _ n. absurd (omega arith)) (λ _ n. none_long ys n) m

abbrev pub is_breach : Reply → Bool
is_breach (reply.Breach y) = true
is_breach _ = false

consume_calm : (j : List Entry) (x : Answer) (y : Request) → (not x.cancelled || has_cancel j y) ≡ true → is_breach (r.consume j x y) ≡ false
consume_calm j x y h = by x.cancelled (has_cancel j y) (granted j y.attempt.action) h
  where
    by : (a b d : Bool) → (not a || b) ≡ true
        → is_breach (cond (a && not b) (reply.Breach breach.NotCancelled) (cond d (reply.Late y.attempt.action y.attempt.branch y.attempt.number) (reply.Matched y.attempt.action y.attempt.branch y.attempt.number))) ≡ false
    by true true true k = refl
    by true true false k = refl
    by false b true k = refl
    by false b false k = refl
    by true false d k = absurd (cc)

-- what is asked of the request of a clean answer
abbrev pub may_answer : List Entry → Answer → Request → Bool
may_answer j x y = not (answered j y.attempt) && (not x.cancelled || has_cancel j y)

pub answer_calm : (p : Plan) (j : List Entry) (w l : ℕ) (x : Answer) → Lawful p j → Clean j → IsOfBerth j l w → broke j l ≡ false → has_ended j l ≡ false → is_asked j l x ≡ true
    → is_breach (r.answer_reply_of j (line_kind p j l) l x) ≡ false
unfolding pending IsWritten
answer_calm p j w l x legal clean own whole running asked =
    rw whole (by_bool (r.is_greeting_of j (line_kind p j l) l x)
    (λ b. is_breach (cond b reply.Greeted (cond (is_single (line_kind p j l)) (cond (int_eq x.number (pos 0)) (r.answer_single j x (r.head (pending j l))) (reply.Breach breach.WrongNumber)) (r.answer_multi j x (find (λ y. int_eq y.number x.number) (sends j l))))) ≡ false)
    (λ _. refl) (λ _. by_bool (is_single (line_kind p j l))
    (λ b. is_single (line_kind p j l) ≡ b → is_breach (cond b (cond (int_eq x.number (pos 0)) (r.answer_single j x (r.head (pending j l))) (reply.Breach breach.WrongNumber)) (r.answer_multi j x (find (λ y. int_eq y.number x.number) (sends j l)))) ≡ false)
    (λ _ one. single one) (λ _ many. multi many) refl))
  where
    facts : LineFacts p j l
    facts = q.line_facts p j l w legal own

    on : AllOf (k.IsSentOn j l) (sends j l)
    on = k.sends_on j l (begin_in_order p j legal)

    open_so : (y : Request) → k.IsSentOn j l y → answered j y.attempt ≡ false → is_pending j y ≡ true
    open_so y o un = q.is_open j y (record { unanswered = un; written = (all_written j y.attempt clean).0; running = subst (λ n. has_ended j n ≡ false) (sym o.line) running })

    test : Request → Bool
    test y = int_eq y.number x.number && may_answer j x y

    passing_open : (y : Request) → k.IsSentOn j l y → test y ≡ true → is_pending j y ≡ true
    passing_open y o h = open_so y o (not_true _ (and_parts (not (answered j y.attempt)) _ (and_parts (int_eq y.number x.number) _ h).1).0)

    closed_tests : (ys : List Request) → AllOf (k.IsSentOn j l) ys → EachRequest (λ y. is_pending j y ≡ false) ys → EachRequest (λ y. test y ≡ false) ys
    closed_tests [] a b = tt
    closed_tests (y ∷ ys) a b = (false_by _ (λ h. clash _ (passing_open y a.0 h) b.0), closed_tests ys a.1 b.1)

    older_on : (ys : List Request) → AllOf (k.IsSentOn j l) ys → AllOf (k.IsSentOn j l) (older ys)
    older_on [] a = tt
    older_on (y ∷ ys) a = a.1

    head_filter : (ys : List Request) (y : Request) → r.head ys ≡ Some y → is_pending j y ≡ true → r.head (filter (is_pending j) ys) ≡ Some y
    head_filter [] y h k = absurd (cc)
    head_filter (z ∷ ys) y h k = (let e : z ≡ y = cc in rw (subst (λ (v : Request). is_pending j v ≡ true) (sym e) k) h)

    single : is_single (line_kind p j l) ≡ true → is_breach (cond (int_eq x.number (pos 0)) (r.answer_single j x (r.head (filter (is_pending j) (sends j l)))) (reply.Breach breach.WrongNumber)) ≡ false
    single one =
        let found = any_first (λ y. k.IsSentOn j l y × (y.number ≡ pos 0)) test (sends j l)
        (k.all_both (k.IsSentOn j l) (λ y. y.number ≡ pos 0) (sends j l) on (q.all_zero (sends j l) (subst (λ b. NumberedAs b (sends j l)) one facts.numbers)))
        (closed_tests (older (sends j l)) (older_on (sends j l) on) (facts.closed one)) asked in
        let parts = and_parts (int_eq (found.0).number x.number) _ found.3 in
        let number : int_eq x.number (pos 0) ≡ true = (Decides-int_eq x.number (pos 0)).1 (sym ((Decides-int_eq (found.0).number x.number).0 parts.0) ∙ found.2.1) in
        let head = head_filter (sends j l) found.0 found.1 (passing_open found.0 found.2.0 found.3) in
        rw (number, head) (consume_calm j x found.0 (and_parts (not (answered j (found.0).attempt)) _ parts.1).1)

    multi : is_single (line_kind p j l) ≡ false → is_breach (r.answer_multi j x (find (λ y. int_eq y.number x.number) (sends j l))) ≡ false
    multi many =
        let found = any_number (k.IsSentOn j l) (may_answer j x) x.number (sends j l) on (subst (λ b. NumberedAs b (sends j l)) many facts.numbers) asked in
        let parts = and_parts (not (answered j (found.0).attempt)) _ found.3 in
        rw (found.1, open_so found.0 found.2 (not_true _ parts.0)) (consume_calm j x found.0 parts.1)

-- ---- in a clean journal a line breaks only by its Ended, and that comes after the order to kill it

calm_break : (j : List Entry) (w : Option Request) (l : ℕ) (d : Call) (x : Reply) → clean_at j d x ≡ true → is_breach x ≡ false → ends l d ≡ false → break_by j w l d x ≡ None
calm_break j w l (call.Wrote m n write.Done) x clean calm h = by_bool (m == l) (λ b. cond {A = Option Cause} b None None ≡ None) (λ _. refl) (λ _. refl)
calm_break j w l (call.Wrote m n _) x clean calm h = absurd (cc)
calm_break j w l (call.Answer m a) (reply.Breach y) clean calm h = absurd (cc)
calm_break j w l (call.Answer m a) _ clean calm h = refl
calm_break j w l (call.Ended m how) x clean calm h = rw h refl
calm_break j w l call.Ask x clean calm h = refl
calm_break j w l (call.Look y) x clean calm h = refl
calm_break j w l (call.Launched m how) x clean calm h = refl
calm_break j w l (call.Claim a b t y) x clean calm h = refl
calm_break j w l (call.Committed a b how) x clean calm h = refl
calm_break j w l (call.Killed m) x clean calm h = refl
calm_break j w l call.Take x clean calm h = refl
calm_break j w l call.Halt x clean calm h = refl
calm_break j w l call.Tick x clean calm h = refl

broke_new : (e : Entry) (j : List Entry) (l : ℕ) → broke (e ∷ j) l ≡ true → (is_some (break_at l j e) ≡ true) ⊎ (broke j l ≡ true)
unfolding line_cause
broke_new e j l h = by (break_at l j e) (line_cause j l) h
  where
    by : (n o : Option Cause) → is_some (unless_before n o) ≡ true → (is_some n ≡ true) ⊎ (is_some o ≡ true)
    by None o y = inr y
    by (Some d) (Some z) y = inr refl
    by (Some d) None y = inl refl

-- a clean answer that is answered Breach was asked for
breach_asked : (j : List Entry) (l : ℕ) (a : Answer) (x : Reply) → is_breach x ≡ true → clean_at j (call.Answer l a) x ≡ true → is_asked j l a ≡ true
breach_asked j l a (reply.Breach y) h clean = (and_parts (is_asked j l a) _ clean).0
breach_asked j l a _ h clean = absurd (cc)

-- only an Answer is answered Breach
breach_answers : (p : Plan) (j : List Entry) (lane : ℕ) (d : Call) (x : Reply) → u.Ruled p j lane d x → is_breach x ≡ true → (l : ℕ) × (a : Answer) × (d ≡ call.Answer l a)
breach_answers p j lane d x (u.IsBroken l a b) h = (l, a, refl)
breach_answers p j lane d x (u.IsWrong l a b) h = (l, a, refl)
breach_answers p j lane d x (u.IsUnasked l a b) h = (l, a, refl)
breach_answers p j lane d x (u.IsNotCancelled l a b) h = (l, a, refl)
breach_answers p j lane d x (u.KillsBroken l y here run broken over) h = absurd (cc)
breach_answers p j lane d x _ h = absurd (cc)

answer_reports : (d : Call) (l : ℕ) (a : Answer) → d ≡ call.Answer l a → ta.reports l d ≡ true
answer_reports d l a is = rw is (eq-eqb l l refl)

pub broke_ended : (p : Plan) (j : List Entry) (l : ℕ) → Lawful p j → Clean j → broke j l ≡ true → has_ended j l ≡ true
unfolding has_ended line_cause
broke_ended p [] l legal clean h = absurd (cc)
broke_ended p (e ∷ j) l legal clean h = by (broke_new e j l h) (λ m y. broke_ended p j m legal.0 clean.0 y)
  where
    calm : ((m : ℕ) → broke j m ≡ true → has_ended j m ≡ true) → is_breach e.reply ≡ false
    calm ih = false_by _ (λ yes_so.
        let a = breach_answers p j e.lane e.call e.reply (v.entry_ruled p e j legal) yes_so in
        let named = (lines_named p (e ∷ j) legal).1.called in
        let own : IsOfBerth j a.0 (e.lane / 2) = subst (λ (d : Call). OfBerth j (call_line d) (e.lane / 2)) a.2 named in
        let reported = answer_reports e.call a.0 a.1 a.2 in
        let running = ta.reported_running p e j a.0 legal reported in
        let whole : broke j a.0 ≡ false = false_by _ (λ b. clash (has_ended j a.0) (ih a.0 b) running) in
        let asked = breach_asked j a.0 a.1 e.reply yes_so (subst (λ (d : Call). clean_at j d e.reply ≡ true) a.2 clean.1) in
        let none = answer_calm p j (e.lane / 2) a.0 a.1 legal.0 clean.0 own whole running asked in
        let is : e.reply ≡ r.answer_reply_of j (line_kind p j a.0) a.0 a.1 = subst (λ (d : Call). lw.Told p j e.lane d e.reply) a.2 legal.1.told in
        clash (is_breach e.reply) yes_so (ap is_breach is ∙ none))

    by : (is_some (break_at l j e) ≡ true) ⊎ (broke j l ≡ true) → ((m : ℕ) → broke j m ≡ true → has_ended j m ≡ true) → (ends l e.call || has_ended j l) ≡ true
    by (inr before) ih = or_right (ends l e.call) _ (ih l before)
    by (inl now) ih =
        by_bool (ends l e.call) (λ b. ends l e.call ≡ b → (b || has_ended j l) ≡ true) (λ _ _. refl)
        (λ _ off. (let none = calm_break j (order_of j e.lane) l e.call e.reply clean.1 (calm ih) off in
        absurd (clash (is_some (break_at l j e)) now (ap is_some none)))) refl

pub ordered_later : (e : Entry) (j : List Entry) (l : ℕ) → kill_ordered j l ≡ true → kill_ordered (e ∷ j) l ≡ true
unfolding kill_ordered
ordered_later e j l h = or_right (orders_kill l e.reply) _ h

pub ended_ordered : (j : List Entry) (l : ℕ) → Clean j → has_ended j l ≡ true → kill_ordered j l ≡ true
unfolding has_ended
ended_ordered [] l clean h = absurd (cc)
ended_ordered (e ∷ j) l clean h = ordered_later e j l (elim (or_cases (ends l e.call) (has_ended j l) h) [
  | inl here ↦ (let x = en.ends_is l e.call here in subst (λ (d : Call). clean_at j d e.reply ≡ true) x.1 clean.1)
  | inr before ↦ ended_ordered j l clean.0 before
])

-- ---- a line that is to be killed has nothing left to do

unneeded_later : (e : Entry) (j : List Entry) (ys : List Request) → EachRequest (λ y. is_needed j y ≡ false) ys → EachRequest (λ y. is_needed (e ∷ j) y ≡ false) ys
unneeded_later e j [] all = tt
unneeded_later e j (y ∷ ys) all = (
  false_by _ (λ h. let parts = and_parts (is_pending (e ∷ j) y) _ h in
      let free : granted j y.attempt.action ≡ false = en.granted_before e j y.attempt.action (not_true _ parts.1) in
      clash (is_needed j y) (and_from _ _ (q.pending_before e j y parts.0) (rw free refl)) all.0),
  unneeded_later e j ys all.1,
)

unbound_later : (p : Plan) (e : Entry) (j : List Entry) (l : ℕ) → Lawful p (e ∷ j) → IsDone p j l → bound p (e ∷ j) l ≡ None
unbound_later p e j l legal was = by (bound p (e ∷ j) l) refl
  where
    of_launch : (t : Attempt) → bound p (e ∷ j) l ≡ Some t → (b : bg.IsBound p (e ∷ j) l t) → q.Launches p e j l b.lane t → ⊥
    of_launch t is b (q.Now at lane) = let n = c.next_line p e j (l, t) legal at in let m = was.own.below in omega arith
    of_launch t is b (q.Before at) = (let old = q.bound_before p e j l b.lane t legal at b in let both : None ≡ Some t = sym was.unbound ∙ old in cc)

    by : (o : Option Attempt) → bound p (e ∷ j) l ≡ o → o ≡ None
    by None is = refl
    by (Some t) is = (let b = bound_is p (e ∷ j) l t is in absurd (of_launch t is b (q.launch_cases p e j l b.lane t b.launched)))

-- nothing is sent there with this entry
pub done_later : (p : Plan) (e : Entry) (j : List Entry) (l : ℕ) → Lawful p (e ∷ j) → sent_on l e.reply ≡ None → IsDone p j l → IsDone p (e ∷ j) l
done_later p e j l legal quiet was = record {
  berth = was.berth;
  own = of_berth_more e j l was.berth (lines_named p (e ∷ j) legal).1.numbered was.own;
  unbound = unbound_later p e j l legal was;
  unneeded = subst (EachRequest (λ y. is_needed (e ∷ j) y ≡ false)) (sym (q.sends_same e j l quiet)) (unneeded_later e j (sends j l) was.unneeded);
}

-- the line's requests, each of an attempt under way or closed
each_needed : (p : Plan) (j : List Entry) (l : ℕ) → Lawful p j → ((y : Request) → IsGoing j y.attempt → granted j y.attempt.action ≡ false → ⊥) → (ys : List Request) → AllOf (k.IsSentOn j l) ys → EachRequest (λ y. is_needed j y ≡ false) ys
each_needed p j l legal none [] on = tt
each_needed p j l legal none (y ∷ ys) on = (
  false_by _ (λ h. let parts = and_parts (is_pending j y) _ h in none y (q.pending_going p j l y legal on.0 parts.0) (not_true _ parts.1)),
  each_needed p j l legal none ys on.1,
)

-- all is over: nothing is wanted
pub over_done : (p : Plan) (j : List Entry) (l w : ℕ) → Lawful p j → IsOfBerth j l w → all_settled p j ≡ true → IsDone p j l
over_done p j l w legal own all = record {
  berth = w;
  own = own;
  unbound = by (bound p j l) refl;
  unneeded = each_needed p j l legal (λ y is free. clash (settled p j y.attempt.action) (at y.attempt is.begun_yet) (f.going_unsettled p j y.attempt legal is free)) (sends j l) (k.sends_on j l (begin_in_order p j legal));
}
  where
    at : (t : Attempt) → begun j t ≡ true → settled p j t.action ≡ true
    at t start = let has = f.going_ready_at p j t legal start in st.each_settled p j t.action has.action all has.place

    by : (o : Option Attempt) → bound p j l ≡ o → o ≡ None
    by None is = refl
    by (Some t) is =
        let b = bound_is p j l t is in
        absurd (clash (settled p j t.action) (at t (launched_begun j l b.lane t b.launched)) (wanted_is p j t.action t.branch b.wish).unsettled)

-- a Single line whose pending request isn't wanted
pub unwanted_done : (p : Plan) (j : List Entry) (l w : ℕ) → Lawful p j → IsOfBerth j l w → is_single (line_kind p j l) ≡ true → r.has_unwanted p j l ≡ true → IsDone p j l
unfolding pending
unwanted_done p j l w legal own one h = record {
  berth = w;
  own = own;
  unbound = by (bound p j l) refl;
  unneeded = only (sends j l) (k.sends_on j l (begin_in_order p j legal)) (q.line_facts p j l w legal own).closed h;
}
  where
    by : (o : Option Attempt) → bound p j l ≡ o → o ≡ None
    by None is = refl
    by (Some t) is = (let none : list_any (is_unwanted p j) (filter (is_pending j) (sends j l)) ≡ false = rw (q.bound_unsent p j l t legal is) refl in absurd (clash _ h none))

    closed_needs : (ys : List Request) → EachRequest (λ y. is_pending j y ≡ false) ys → EachRequest (λ y. is_needed j y ≡ false) ys
    closed_needs [] all = tt
    closed_needs (y ∷ ys) all = (rw all.0 refl, closed_needs ys all.1)

    closed_none : (ys : List Request) → EachRequest (λ y. is_pending j y ≡ false) ys → list_any (is_unwanted p j) (filter (is_pending j) ys) ≡ false
    closed_none [] all = refl
    closed_none (y ∷ ys) all = rw all.0 (closed_none ys all.1)

    only : (ys : List Request) → AllOf (k.IsSentOn j l) ys → (is_single (line_kind p j l) ≡ true → EachRequest (λ y. is_pending j y ≡ false) (older ys)) → list_any (is_unwanted p j) (filter (is_pending j) ys) ≡ true → EachRequest (λ y. is_needed j y ≡ false) ys
    only [] on closed m = tt
    only (y ∷ ys) on closed m = (
      false_by _ (λ needed. let parts = and_parts (is_pending j y) _ needed in
          let is = q.pending_going p j l y legal on.0 parts.0 in
          let wish : wanted p j y.attempt.action y.attempt.branch ≡ true = f.going_wanted p j y.attempt legal is ∙ parts.1 in
          let unwanted : is_unwanted p j y ≡ false = rw wish refl in
          let none : list_any (is_unwanted p j) (cond (is_pending j y) (y ∷ filter (is_pending j) ys) (filter (is_pending j) ys)) ≡ false = rw (parts.0, unwanted) (closed_none ys (closed one)) in
          clash _ m none),
      closed_needs ys (closed one),
    )

-- a line of which nothing is pending or bound
pub empty_done : (p : Plan) (j : List Entry) (l w : ℕ) → IsOfBerth j l w → pending j l ≡ [] → bound p j l ≡ None → IsDone p j l
unfolding pending
empty_done p j l w own empty free = record { berth = w; own = own; unbound = free; unneeded = none (sends j l) empty }
  where
    none : (ys : List Request) → filter (is_pending j) ys ≡ [] → EachRequest (λ y. is_needed j y ≡ false) ys
    none [] h = tt
    none (y ∷ ys) h =
        by_bool (is_pending j y) (λ b. is_pending j y ≡ b → cond b (y ∷ filter (is_pending j) ys) (filter (is_pending j) ys) ≡ [] → (is_needed j y ≡ false) × EachRequest (λ z. is_needed j z ≡ false) ys)
        (λ _ _ m. absurd (cc)) (λ _ off m. (rw off refl, none ys m)) refl h

kill_done : (p : Plan) (e : Entry) (j : List Entry) (l : ℕ) → Lawful p (e ∷ j) → Clean j → halted j ≡ false → (lane : ℕ) (d : Call) (x : Reply) → u.Ruled p j lane d x → orders_kill l x ≡ true → kill_ordered j l ≡ false → IsDone p j l
kill_done p e j l legal clean none lane d x (u.Quits m here run over) h new =
    let n = eqb-true m l h in
    elim (or_cases (all_settled p j) (halted j) over) [
      | inl all ↦ over_done p j l (lane / 2) legal.0 (subst (λ i. IsOfBerth j i (lane / 2)) n (la.here_own p j (lane / 2) m legal.0 here)) all
      | inr halt ↦ absurd (clash (halted j) halt none)
    ]
kill_done p e j l legal clean none lane d x (u.KillsBroken m y here run broken over) h new =
    let n = eqb-true m l h in
    let b : broke j l ≡ true = subst (λ i. broke j i ≡ true) n (v.is_some_from (line_cause j m) y broken) in
    absurd (clash (kill_ordered j l) (ended_ordered j l clean (broke_ended p j l legal.0 clean b)) new)
kill_done p e j l legal clean none lane d x (u.KillsUnwanted m here run one no_cancel unwanted over) h new =
    let n = eqb-true m l h in
    unwanted_done p j l (lane / 2) legal.0 (subst (λ i. IsOfBerth j i (lane / 2)) n (la.here_own p j (lane / 2) m legal.0 here)) (subst (λ i. is_single (line_kind p j i) ≡ true) n one) (subst (λ i. r.has_unwanted p j i ≡ true) n unwanted)
kill_done p e j l legal clean none lane d x (u.Evicts m here alive empty free before) h new =
    let n = eqb-true m l h in
    empty_done p j l (lane / 2) (subst (λ i. IsOfBerth j i (lane / 2)) n (la.here_own p j (lane / 2) m legal.0 here))
    (subst (λ i. pending j i ≡ []) n empty) (subst (λ i. bound p j i ≡ None) n free)
kill_done p e j l legal clean none lane d x _ h new = absurd (cc)

pub unhalted_before : (e : Entry) (j : List Entry) → halted (e ∷ j) ≡ false → halted j ≡ false
unfolding halted
unhalted_before e j h = (or_parts _ _ h).1

pub kill_sends_none : (l m : ℕ) (x : Reply) → orders_kill l x ≡ true → sent_on m x ≡ None
kill_sends_none l m (reply.Kill i y) h = refl
kill_sends_none l m _ h = absurd (cc)

-- in a clean journal where no lane halted
pub ordered_done : (p : Plan) (j : List Entry) (l : ℕ) → Lawful p j → Clean j → halted j ≡ false → kill_ordered j l ≡ true → IsDone p j l
unfolding kill_ordered
ordered_done p [] l legal clean none h = absurd (cc)
ordered_done p (e ∷ j) l legal clean none h = by (or_cases (orders_kill l e.reply) (kill_ordered j l) h) (λ y. ordered_done p j l legal.0 clean.0 (unhalted_before e j none) y)
  where
    unsent : kill_ordered j l ≡ true → (w : Option Request) → sent_on l e.reply ≡ w → w ≡ None
    unsent old None is = refl
    unsent old (Some x) is =
        let s = q.sent_on_is l e.reply x is in
        absurd (clash (kill_ordered j l) old (subst (λ n. kill_ordered j n ≡ false) s.1 (la.sends_unordered p e j x legal s.0)))

    by : (orders_kill l e.reply ≡ true) ⊎ (kill_ordered j l ≡ true) → (kill_ordered j l ≡ true → IsDone p j l) → IsDone p (e ∷ j) l
    by (inl here) ih =
        let once = la.kills_once p e j l legal here in
        done_later p e j l legal (kill_sends_none l l e.reply here) (kill_done p e j l legal clean.0 (unhalted_before e j none) e.lane e.call e.reply (v.entry_ruled p e j legal) here once.first)
    by (inr before) ih = done_later p e j l legal (unsent before (sent_on l e.reply) refl) (ih before)

-- ---- no attempt ends

line_of_new : (e : Entry) (j : List Entry) (t : Attempt) (l : ℕ) → line_of (e ∷ j) t ≡ Some l → (carrier_in t e.reply ≡ Some l) ⊎ (line_of j t ≡ Some l)
unfolding line_of
line_of_new e j t l h = k.or_some (carrier_in t e.reply) (line_of j t) l h

-- what carries it: it was launched there, or sent
pub data OnLine (j : List Entry) (t : Attempt) (l : ℕ) : Type 0 where
  Launched : (m : ℕ) → launch_of j l ≡ Some (m, t) → OnLine j t l
  Sent : was_sent j t ≡ true → OnLine j t l

launched_now : (e : Entry) (j : List Entry) (l : ℕ) (t : Attempt) → launch_in e.reply ≡ Some (l, t) → launch_of (e ∷ j) l ≡ Some (e.lane, t)
unfolding launch_of
launched_now e j l t h = rw (h, eq-eqb l l refl) refl

sent_carrier : (t : Attempt) (x : Reply) (l : ℕ) → carrier_in t x ≡ Some l → (launch_in x ≡ Some (l, t)) ⊎ (is_for t (option_map (λ y. y.attempt) (send_in x)) ≡ true)
sent_carrier t (reply.Launch m a b n) l h =
    by_bool (same_attempt (attempt_of a b n) t) (λ z. same_attempt (attempt_of a b n) t ≡ z → cond z (Some m) None ≡ Some l → (launch_in (reply.Launch m a b n) ≡ Some (l, t)) ⊎ (is_for t None ≡ true))
    (λ _ same g. (let i : m ≡ l = cc in let s = same_attempt_eq (attempt_of a b n) t same in inl (λ w. Some (i w, s w)))) (λ _ _ g. absurd (cc)) refl h
sent_carrier t (reply.Send m o a b n) l h =
    by_bool (same_attempt (attempt_of a b n) t) (λ z. same_attempt (attempt_of a b n) t ≡ z → cond z (Some m) None ≡ Some l → (launch_in (reply.Send m o a b n) ≡ Some (l, t)) ⊎ (same_attempt (attempt_of a b n) t ≡ true))
    (λ _ same g. inr same) (λ _ _ g. absurd (cc)) refl h
sent_carrier t _ l h = absurd (cc)

sent_at : (e : Entry) (j : List Entry) (t : Attempt) → is_for t (option_map (λ y. y.attempt) (send_in e.reply)) ≡ true → was_sent (e ∷ j) t ≡ true
unfolding was_sent
sent_at e j t h = or_left _ _ h

pub on_line : (p : Plan) (j : List Entry) (t : Attempt) (l : ℕ) → Lawful p j → line_of j t ≡ Some l → OnLine j t l
unfolding line_of
on_line p [] t l legal h = absurd (cc)
on_line p (e ∷ j) t l legal h = by (line_of_new e j t l h) (λ y. on_line p j t l legal.0 y)
  where
    later : OnLine j t l → OnLine (e ∷ j) t l
    later (Launched m at) = Launched m (q.launch_later p e j l m t legal at)
    later (Sent y) = Sent (k.sent_later e j t y)

    by : (carrier_in t e.reply ≡ Some l) ⊎ (line_of j t ≡ Some l) → (line_of j t ≡ Some l → OnLine j t l) → OnLine (e ∷ j) t l
    by (inl here) ih = elim (sent_carrier t e.reply l here) [ inl a ↦ Launched e.lane (launched_now e j l t a) | inr b ↦ Sent (sent_at e j t b) ]
    by (inr before) ih = later (ih before)

-- a request of an attempt that was sent
pub record HasRequest (j : List Entry) (t : Attempt) : Type 0 where
  pub request : Request
  pub of : request.attempt ≡ t
  pub carrier : line_of j t ≡ Some request.line
  pub among : va.IsAmong j request

sent_request : (p : Plan) (j : List Entry) (t : Attempt) → Lawful p j → was_sent j t ≡ true → HasRequest j t
unfolding was_sent
sent_request p [] t legal h = absurd (cc)
sent_request p (e ∷ j) t legal h = by (or_cases (is_for t (option_map (λ y. y.attempt) (send_in e.reply))) (was_sent j t) h) (λ y. sent_request p j t legal.0 y)
  where
    by : (is_for t (option_map (λ y. y.attempt) (send_in e.reply)) ≡ true) ⊎ (was_sent j t ≡ true) → (was_sent j t ≡ true → HasRequest j t) → HasRequest (e ∷ j) t
    by (inl here) ih =
        let it = k.send_of j e.reply t (begin_in_order p (e ∷ j) legal).1 here in
        let on = ra.sent_line e j e.reply it.request refl it.is in
        record { request = it.request; of = it.of; carrier = subst (λ (y : Attempt). line_of (e ∷ j) y ≡ Some it.request.line) it.of on.carrier; among = va.among_here e j it.request it.is }
    by (inr before) ih =
        let old = ih before in
        record { request = old.request; of = old.of; carrier = k.line_stays e j t old.request.line (begin_in_order p (e ∷ j) legal) old.carrier; among = va.among_later e j old.request old.among }

among_unneeded : (j : List Entry) (y : Request) → va.IsAmong j y → EachRequest (λ x. is_needed j x ≡ false) (sends j y.line) → is_needed j y ≡ false
among_unneeded j y among all = va.among_at j y (is_needed j) among all

bound_to : (p : Plan) (j : List Entry) (l m : ℕ) (t : Attempt) → launch_of j l ≡ Some (m, t) → wanted p j t.action t.branch ≡ true → was_sent j t ≡ false → ended j t ≡ false → bound p j l ≡ Some t
unfolding bound
bound_to p j l m t at wish un going = rw (at, wish, un, going) refl

-- in a clean journal where no lane halted
pub none_ends : (p : Plan) (j : List Entry) (t : Attempt) → Lawful p j → Clean j → halted j ≡ false → ended j t ≡ false
unfolding ended end_of
none_ends p [] t legal clean none = refl
none_ends p (e ∷ j) t legal clean none = false_by _ (λ now.
    let before = none_ends p j t legal.0 clean.0 (unhalted_before e j none) in
    let how = en.ends_with p e j t legal now before in
    by how.0 (en.granted_before e j t.action how.1) before)
  where
    unleft : (l : ℕ) (how : HowEnded) → e.call ≡ call.Ended l how → line_of j t ≡ Some l → is_left j t ≡ true → granted j t.action ≡ false → ended j t ≡ false → ⊥
    unleft l how is at left free going =
        let ordered : kill_ordered j l ≡ true = subst (λ (d : Call). clean_at j d e.reply ≡ true) is clean.1 in
        let done = ordered_done p j l legal.0 clean.0 (unhalted_before e j none) ordered in
        let written = all_written j t clean.0 in
        let reported : ta.reports l e.call ≡ true = rw is (eq-eqb l l refl) in
        let running = ta.reported_running p e j l legal reported in
        let un : answered j t ≡ false = (elim (or_cases (not (answered j t)) _ left) [ inl a ↦ not_true _ a | inr b ↦ absurd (clash _ b (feed_of (wrote j t) written)) ]) in
        of_line (on_line p j t l legal.0 at) done un (unwritten_of (wrote j t) written) running
      where
        feed_of : (o : Option Written) → IsWritten o → says_feed_fault o ≡ false
        feed_of o h = written_feed o h

        unwritten_of : (o : Option Written) → IsWritten o → says_unwritten o ≡ false
        unwritten_of o h = written_whole o h

        of_sent : was_sent j t ≡ true → IsDone p j l → answered j t ≡ false → says_unwritten (wrote j t) ≡ false → has_ended j l ≡ false → ⊥
        of_sent sent done un whole running =
            let has = sent_request p j t legal.0 sent in
            let both : Some has.request.line ≡ Some l = sym has.carrier ∙ at in
            let line : has.request.line ≡ l = cc in
            let open_now = q.is_open j has.request (record {
              unanswered = subst (λ (y : Attempt). answered j y ≡ false) (sym has.of) un;
              written = subst (λ (y : Attempt). says_unwritten (wrote j y) ≡ false) (sym has.of) whole;
              running = subst (λ n. has_ended j n ≡ false) (sym line) running;
            }) in
            let free_now : granted j has.request.attempt.action ≡ false = subst (λ (y : Attempt). granted j y.action ≡ false) (sym has.of) free in
            let needed : is_needed j has.request ≡ true = and_from _ _ open_now (rw free_now refl) in
            clash _ needed (among_unneeded j has.request has.among (subst (λ n. EachRequest (λ x. is_needed j x ≡ false) (sends j n)) (sym line) done.unneeded))

        of_line : OnLine j t l → IsDone p j l → answered j t ≡ false → says_unwritten (wrote j t) ≡ false → has_ended j l ≡ false → ⊥
        of_line (Sent sent) done un whole running = of_sent sent done un whole running
        of_line (Launched m launched) done un whole running =
            by_bool (was_sent j t) (λ b. was_sent j t ≡ b → ⊥) (λ _ sent. of_sent sent done un whole running)
            (λ _ unsent.
            let is_going = g.going_is p j t legal.0 (launched_begun j l m t launched) going in
            let wish : wanted p j t.action t.branch ≡ true = f.going_wanted p j t legal.0 is_going ∙ rw free refl in
            let at_line = bound_to p j l m t launched wish unsent going in
            let both : None ≡ Some t = sym done.unbound ∙ at_line in cc) refl

    by : EndsWith j e t → granted j t.action ≡ false → ended j t ≡ false → ⊥
    by (ByFault x is) free going = (let nothing = fault_none t j (last_work j e.lane) e.call e.reply clean.1 in let both : None ≡ Some x = sym nothing ∙ is in cc)
    by (ByEnd l how is at left) free going = unleft l how is at left free going
    by (ByFeed l is at over) free going = (let d = clean_wrote j e t write.FeedFault clean.1 is in cc)

-- ---- so every action has success

-- no action of a clean journal is without success
won_files : (p : Plan) (j : List Entry) (a : ℕ) (x : Attempt × Found) → Clean j → grant_of j a ≡ Some x → (fs : List (List ℕ)) × (x.1 ≡ found.Files fs)
unfolding grant_of
won_files p [] a x clean h = absurd (cc)
won_files p (e ∷ j) a x clean h = elim (g.grant_cases e j a x h) [
  | inl old ↦ won_files p j a x clean.0 old
  | inr new ↦ of_call e.call e.reply clean.1 new.0
]
  where
    of_call : (d : Call) (y : Reply) → clean_at j d y ≡ true → granted_in d y ≡ Some x → (fs : List (List ℕ)) × (x.1 ≡ found.Files fs)
    of_call (call.Claim m b t (found.Files fs)) reply.Granted clean h = (let e : (attempt_of m b t, found.Files fs) ≡ x = cc in (fs, sym (ap (λ (z : Attempt × Found). z.1) e)))
    of_call (call.Claim m b t (found.Files fs)) _ clean h = absurd (cc)
    of_call (call.Claim m b t _) y clean h = absurd (cc)
    of_call _ y clean h = absurd (cc)

commit_done : (j : List Entry) (a : ℕ) (b : Branch) (how : CommitEnd) → Clean j → commit_of j a b ≡ Some how → how ≡ commit.Done
unfolding commit_of
commit_done [] a b how clean h = absurd (cc)
commit_done (e ∷ j) a b how clean h = by (committed_in a b e.call) refl (commit_of j a b) refl (λ y. commit_done j a b how clean.0 y) h
  where
    new : (d : Call) → clean_at j d e.reply ≡ true → committed_in a b d ≡ Some how → how ≡ commit.Done
    new (call.Committed x y commit.Done) c h = done_if ((x == a) && same_branch y b) h
      where
        done_if : (z : Bool) → cond z (Some commit.Done) None ≡ Some how → how ≡ commit.Done
        done_if true m = (let e : commit.Done ≡ how = cc in sym e)
        done_if false m = absurd (cc)
    new (call.Committed x y (commit.PlaceFault n)) c h = absurd (cc)
    new _ c h = absurd (cc)

    by : (n : Option CommitEnd) → committed_in a b e.call ≡ n → (o : Option CommitEnd) → commit_of j a b ≡ o → (commit_of j a b ≡ Some how → how ≡ commit.Done) → unless_before n o ≡ Some how → how ≡ commit.Done
    by None is o io ih m = ih (io ∙ m)
    by (Some y) is (Some w) io ih m = ih (io ∙ m)
    by (Some y) is None io ih m = new e.call clean.1 (is ∙ m)

-- a grant is followed by success, or nothing yet
own_is : (p : Plan) (j : List Entry) (a : ℕ) → Clean j → (by_grant j (grant_of j a) ≡ None) ⊎ (by_grant j (grant_of j a) ≡ Some Succeeded)
own_is p j a clean = by (grant_of j a) refl
  where
    of_commit : (t : Attempt) (o : Option CommitEnd) → commit_of j t.action t.branch ≡ o → (by_commit o ≡ None) ⊎ (by_commit o ≡ Some Succeeded)
    of_commit t None is = inl refl
    of_commit t (Some how) is = (let d = commit_done j t.action t.branch how clean is in inr (ap (λ (z : CommitEnd). by_commit (Some z)) d))

    of_files : (t : Attempt) (f : Found) → (fs : List (List ℕ)) × (f ≡ found.Files fs) → (by_grant j (Some (t, f)) ≡ None) ⊎ (by_grant j (Some (t, f)) ≡ Some Succeeded)
    of_files t f is = subst (λ (z : Found). (by_grant j (Some (t, z)) ≡ None) ⊎ (by_grant j (Some (t, z)) ≡ Some Succeeded)) (sym is.1) (of_commit t (commit_of j t.action t.branch) refl)

    by : (o : Option (Attempt × Found)) → grant_of j a ≡ o → (by_grant j o ≡ None) ⊎ (by_grant j o ≡ Some Succeeded)
    by None is = inl refl
    by (Some (t, x)) is = of_files t x (won_files p j a (t, x) clean is)

used_at : (p : Plan) (n i : ℕ) (xs : List PlanAction) (x : PlanAction) → are_sound_from p n xs ≡ true → slice_get xs i ≡ Some x → (is_some x.local || is_some x.remote) ≡ true
used_at p n i [] x h at = absurd (cc)
used_at p n zero (y ∷ ys) x h at =
    let e : y ≡ x = cc in
    let one = (and_parts (is_sound_action p n y) _ h).0 in
    let has = (and_parts (has_branches (length p.groups) y) _ (and_parts _ (has_branches (length p.groups) y && _) one).1).0 in
    subst (λ (z : PlanAction). (is_some z.local || is_some z.remote) ≡ true) e (and_parts (is_some y.local || is_some y.remote) _ has).0
used_at p n (suc i) (y ∷ ys) x h at = used_at p (suc n) i ys x (and_parts (is_sound_action p n y) _ h).1 at

-- in a clean journal where no lane halted no action is without success
module _ (p : Plan) (j : List Entry) (sound : Sound p) (legal : Lawful p j) (clean : Clean j) (none : halted j ≡ false) where
  undropped : (a : ℕ) (b : Branch) → dropped p j a b ≡ false
  unfolding dropped
  undropped a b = none_ends p j (attempt_of a b p.limit) legal clean none

  some_left : (a : ℕ) (x : PlanAction) → slice_get p.actions a ≡ Some x → all_dropped p j a x ≡ false
  some_left a x at = elim (or_cases (is_some x.local) _ (used_at p 0 a p.actions x sound.each_action at)) [
    | inl local ↦ (let n = v.some_is x.local local in f.has_branch_left p j a Local x n.0 n.1 (undropped a Local))
    | inr remote ↦ (let n = v.some_is x.remote remote in f.has_branch_left p j a Remote x n.0 n.1 (undropped a Remote))
  ]

  pub NoneWithout : List Standing → Type 0
  NoneWithout xs = (i : ℕ) → is_unsuccessful (slice_get xs i) ≡ false

  fed_all : (x : PlanAction) (xs : List Standing) → NoneWithout xs → is_starved x xs ≡ false
  unfolding NoneWithout
  fed_all x xs h = all x.makers
    where
      all : (ms : List Maker) → list_any (λ m. is_unsuccessful (slice_get xs m.action)) ms ≡ false
      all [] = refl
      all (m ∷ ms) = rw (h m.action) (all ms)

  -- the standing of an action, where no other is without success: open, or success by its own grant
  clean_standing : (a : ℕ) (x : PlanAction) (xs : List Standing) → slice_get p.actions a ≡ Some x → NoneWithout xs
      → ((standing_after p j a x xs ≡ Open) × (by_grant j (grant_of j a) ≡ None)) ⊎ ((standing_after p j a x xs ≡ Succeeded) × (by_grant j (grant_of j a) ≡ Some Succeeded))
  clean_standing a x xs at h = elim (own_is p j a clean) [
    | inl nothing ↦ inl (rw (nothing, some_left a x at, fed_all x xs h) refl, nothing)
    | inr success ↦ inr (rw success refl, success)
  ]

  none_more : (xs : List Standing) (s : Standing) → NoneWithout xs → is_unsuccessful (Some s) ≡ false → NoneWithout (xs ++ s ∷ [])
  unfolding NoneWithout
  none_more [] s h k zero = k
  none_more [] s h k (suc i) = refl
  none_more (x ∷ xs) s h k zero = h zero
  none_more (x ∷ xs) s h k (suc i) = none_more xs s (λ n. h (suc n)) k i

  not_without : (a : ℕ) (x : PlanAction) (xs : List Standing) → slice_get p.actions a ≡ Some x → NoneWithout xs → is_unsuccessful (Some (standing_after p j a x xs)) ≡ false
  not_without a x xs at h = elim (clean_standing a x xs at h) [
    | inl o ↦ ap (λ z. is_unsuccessful (Some z)) o.0
    | inr o ↦ ap (λ z. is_unsuccessful (Some z)) o.0
  ]

  none_from : (rest : List PlanAction) (xs : List Standing) → ((i : ℕ) → slice_get rest i ≡ slice_get p.actions (length xs + i)) → NoneWithout xs → NoneWithout (standings_from p j xs rest)
  none_from [] xs at h = h
  none_from (x ∷ rest) xs at h =
      let here : slice_get p.actions (length xs) ≡ Some x = subst (λ n. slice_get p.actions n ≡ Some x) (omega arith) (sym (at zero)) in
      let s = standing_after p j (length xs) x xs in
      none_from rest (xs ++ s ∷ []) (λ i. at (suc i) ∙ ap (slice_get p.actions) (let n = f.length_more xs s in omega (arith, n))) (none_more xs s h (not_without (length xs) x xs here h))

  pub none_without : NoneWithout (standings p j)
  unfolding standings NoneWithout
  none_without = none_from p.actions [] (λ i. ap (slice_get p.actions) (omega arith)) (λ i. refl)

  front_none : (xs : List Standing) → f.Extends xs (standings p j) → NoneWithout xs
  unfolding NoneWithout f.Extends
  front_none xs ext i = by (slice_get xs i) refl
    where
      by : (o : Option Standing) → slice_get xs i ≡ o → is_unsuccessful o ≡ false
      by None is = refl
      by (Some s) is = subst (λ o. is_unsuccessful o ≡ false) (ext i s is) (none_without i)

  won_is_ok : (a : ℕ) → by_grant j (grant_of j a) ≡ Some Succeeded → (d : Outcome) → is_ok (unwrap_or (grant_outcome j (grant_of j a)) d) ≡ true
  won_is_ok a h d = by (grant_of j a) h
    where
      of_commit : (b : Branch) (o : Option CommitEnd) → by_commit o ≡ Some Succeeded → is_ok (unwrap_or (commit_outcome b o) d) ≡ true
      of_commit b (Some commit.Done) k = refl
      of_commit b (Some (commit.PlaceFault n)) k = absurd (cc)
      of_commit b None k = absurd (cc)

      by : (o : Option (Attempt × Found)) → by_grant j o ≡ Some Succeeded → is_ok (unwrap_or (grant_outcome j o) d) ≡ true
      by None k = absurd (cc)
      by (Some (t, found.Exit n)) k = absurd (cc)
      by (Some (t, found.Files fs)) k = of_commit t.branch (commit_of j t.action t.branch) k
      by (Some (t, found.Missing n)) k = absurd (cc)
      by (Some (t, found.RoomFault)) k = absurd (cc)
      by (Some (t, found.Refused)) k = absurd (cc)

  settled_standing : (a : ℕ) (s : Standing) → slice_get (standings p j) a ≡ Some s → settled p j a ≡ true → is_settled s ≡ true
  unfolding settled
  settled_standing a s is h = subst (λ o. unwrap_or (option_map is_settled o) false ≡ true) is h

  -- where all actions are settled
  pub all_succeed : all_settled p j ≡ true → (a : ℕ) (x : PlanAction) → slice_get p.actions a ≡ Some x → is_ok (outcome_of p j a) ≡ true
  unfolding outcome_of
  all_succeed all a x at =
      let s = f.stands_at p j a x at in
      let yes_settled = settled_standing a (standing_after p j a x s.front) s.is (st.each_settled p j a x all at) in
      elim (clean_standing a x s.front at (front_none s.front s.begin)) [
        | inl o ↦ absurd (let n : is_settled (standing_after p j a x s.front) ≡ false = ap is_settled o.0 in clash _ yes_settled n)
        | inr o ↦ rw at (won_is_ok a o.1 _)
      ]

-- at Stop of a clean journal where no lane halted every action has success
pub complete : (p : Plan) (j : List Entry) (lane : ℕ) (d : Call) → Sound p → Lawful p j → Clean j → halted j ≡ false → lw.Told p j lane d reply.Stop
    → (a : ℕ) (x : PlanAction) → slice_get p.actions a ≡ Some x → is_ok (outcome_of p j a) ≡ true
complete p j lane d sound legal clean none stop a x at = all_succeed p j sound legal clean none (st.stop_settles p j lane d stop none) a x at
