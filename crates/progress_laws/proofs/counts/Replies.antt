-- What an answer is told: that its line broke before, that it is a greeting, that it is about no
-- request, or that it closes or refuses an open one.
use Rattle.std.proofs.Common.{◌≡◌, ℕ, true, false, ◌&&◌, ◌||◌, not, cond, List, ◌∷◌, Option, Some, None, refl, sym, subst, pos}
use Rattle.std.specs.Prelude.{int_le}
use Rattle.std.specs.List.{find}
use Rattle.std.specs.Ordering.{int_eq}
use Rattle.std.proofs.lemmas.Bool.{and_parts}
use Rattle.run_plan.specs.declared.plan.Kind.{Kind}
use Rattle.run_plan.specs.declared.plan.Plan.{Plan}
use Rattle.run_plan.specs.Groups.{is_remote, is_single}
use Rattle.exec_journal.specs.declared.attempt.Attempt.{Attempt}
use Rattle.exec_journal.specs.declared.call.Answer.{Answer}
use Rattle.exec_journal.specs.declared.call.Call.{Call}
use Rattle.exec_journal.specs.declared.call.Call.TheVariants as call
use Rattle.exec_journal.specs.declared.reply.BreachWhy.TheVariants as breach
use Rattle.exec_journal.specs.declared.reply.Reply.{Reply}
use Rattle.exec_journal.specs.declared.reply.Reply.TheVariants as reply
use Rattle.exec_journal.specs.declared.reply.StrayWhy.TheVariants as stray
use Rattle.exec_journal.specs.Entry.{Entry}
use Rattle.exec_journal.specs.Entries.{Request, consumed_in}
use Rattle.exec_journal.specs.Lawful as lw
use Rattle.exec_journal.specs.Lawful.{Lawful}
use Rattle.exec_journal.specs.Rules as r
use Rattle.exec_journal.specs.Seated.{line_kind}
use Rattle.exec_journal.specs.Words.{broke, granted, has_cancel, has_spoken, is_pending, pending, sends}
use Rattle.exec_journal.proofs.Histories.{all_filter, all_find, all_head}
use Rattle.exec_journal.proofs.Reasons as u
use Rattle.exec_journal.proofs.Ruled.{by_bool, not_true, pending_open}
use Rattle.journal_laws.proofs.Over as v
use Rattle.progress_laws.specs.Few.{is_noise}
use Rattle.progress_laws.proofs.counts.Sent.{IsAsked, requests_asked}
use Rattle.progress_laws.proofs.counts.Sorts.{is_answer, is_remark}

-- a pending request of the line
pub record IsOpenOn (j : List Entry) (l : ℕ) (x : Request) : Type 0 where
  pub asked : IsAsked j l x
  pub unclosed : is_pending j x ≡ true

-- the reply consumes the request's answer, or says that no Cancel asked for it
pub data ClosesIt (t : Attempt) : Reply → Type 0 where
  Consumes : (y : Reply) → consumed_in y ≡ Some t → ClosesIt t y
  Refuses : ClosesIt t (reply.Breach breach.NotCancelled)

pub data Heard (j : List Entry) (k : Kind) (l : ℕ) : Reply → Type 0 where
  Noise : (y : Reply) → is_noise y ≡ true → Heard j k l y
  Greets : broke j l ≡ false → has_spoken j l ≡ false → Heard j k l reply.Greeted
  Remarks : (y : Reply) → broke j l ≡ false → is_single k ≡ true → is_remark y ≡ true
      → Heard j k l y
  Closes : (x : Request) (y : Reply) → broke j l ≡ false → IsOpenOn j l x → ClosesIt x.attempt y
      → Heard j k l y

module _ (p : Plan) (j : List Entry) (k : Kind) (l : ℕ) (x : Answer) (legal : Lawful p j)
    (whole : broke j l ≡ false) where
  consume_heard : (y : Request) → IsOpenOn j l y → Heard j k l (r.consume j x y)
  consume_heard y open_now =
      by_bool (x.cancelled && not (has_cancel j y))
      (λ b. Heard j k l (cond b (reply.Breach breach.NotCancelled)
      (cond (granted j y.attempt.action)
      (reply.Late y.attempt.action y.attempt.branch y.attempt.number)
      (reply.Matched y.attempt.action y.attempt.branch y.attempt.number))))
      (λ _. Closes y (reply.Breach breach.NotCancelled) whole open_now Refuses)
      (λ _. by_bool (granted j y.attempt.action)
      (λ b. Heard j k l (cond b (reply.Late y.attempt.action y.attempt.branch y.attempt.number)
      (reply.Matched y.attempt.action y.attempt.branch y.attempt.number)))
      (λ _. Closes y (reply.Late y.attempt.action y.attempt.branch y.attempt.number) whole open_now
      (Consumes (reply.Late y.attempt.action y.attempt.branch y.attempt.number) refl))
      (λ _. Closes y (reply.Matched y.attempt.action y.attempt.branch y.attempt.number) whole
      open_now
      (Consumes (reply.Matched y.attempt.action y.attempt.branch y.attempt.number) refl)))

  single_heard : is_single k ≡ true → (o : Option Request) → r.head (pending j l) ≡ o
      → Heard j k l (r.answer_single j x o)
  unfolding pending
  single_heard one None h = Remarks (reply.Breach breach.Unasked) whole one refl
  single_heard one (Some y) h =
      consume_heard y (record {
        asked = all_head (IsAsked j l) _ y
            (all_filter (IsAsked j l) (is_pending j) (sends j l) (requests_asked p j l legal)) h;
        unclosed = pending_open j l y h;
      })

  multi_heard : (o : Option Request) → find (λ y. int_eq y.number x.number) (sends j l) ≡ o
      → Heard j k l (r.answer_multi j x o)
  multi_heard None h = Noise (reply.Stray stray.Never) refl
  multi_heard (Some y) h =
      by_bool (is_pending j y)
      (λ b. Heard j k l (cond b (r.consume j x y) (reply.Stray stray.Closed)))
      (λ still. consume_heard y (record {
        asked = all_find (IsAsked j l) (λ z. int_eq z.number x.number) (sends j l) y
            (requests_asked p j l legal) h;
        unclosed = still;
      }))
      (λ _. Noise (reply.Stray stray.Closed) refl)

  unmet_heard : Heard j k l (cond (is_single k)
      (cond (int_eq x.number (pos 0)) (r.answer_single j x (r.head (pending j l)))
      (reply.Breach breach.WrongNumber))
      (r.answer_multi j x (find (λ y. int_eq y.number x.number) (sends j l))))
  unmet_heard =
      by_bool (is_single k) (λ b. Heard j k l (cond b
      (cond (int_eq x.number (pos 0)) (r.answer_single j x (r.head (pending j l)))
      (reply.Breach breach.WrongNumber))
      (r.answer_multi j x (find (λ y. int_eq y.number x.number) (sends j l)))))
      (λ one. by_bool (int_eq x.number (pos 0))
      (λ b. Heard j k l (cond b (r.answer_single j x (r.head (pending j l)))
      (reply.Breach breach.WrongNumber)))
      (λ _. single_heard one (r.head (pending j l)) refl)
      (λ _. Remarks (reply.Breach breach.WrongNumber) whole one refl))
      (λ _. multi_heard (find (λ y. int_eq y.number x.number) (sends j l)) refl)

  unspoken : r.is_greeting_of j k l x ≡ true → has_spoken j l ≡ false
  unspoken h =
      not_true _ (and_parts (int_le (pos 2) x.version) _ (and_parts (int_eq x.number (pos 0)) _
      (and_parts (is_remote k) _ h).1).1).1

  unbroken_heard : Heard j k l (cond (r.is_greeting_of j k l x) reply.Greeted (cond (is_single k)
      (cond (int_eq x.number (pos 0)) (r.answer_single j x (r.head (pending j l)))
      (reply.Breach breach.WrongNumber))
      (r.answer_multi j x (find (λ y. int_eq y.number x.number) (sends j l)))))
  unbroken_heard =
      by_bool (r.is_greeting_of j k l x) (λ b. Heard j k l (cond b reply.Greeted (cond (is_single k)
      (cond (int_eq x.number (pos 0)) (r.answer_single j x (r.head (pending j l)))
      (reply.Breach breach.WrongNumber))
      (r.answer_multi j x (find (λ y. int_eq y.number x.number) (sends j l))))))
      (λ greeting. Greets whole (unspoken greeting))
      (λ _. unmet_heard)

answer_heard : (p : Plan) (j : List Entry) (k : Kind) (l : ℕ) (x : Answer) → Lawful p j
    → Heard j k l (r.answer_reply_of j k l x)
answer_heard p j k l x legal =
    by_bool (broke j l) (λ b. Heard j k l
    (cond b (reply.Breach breach.Broken)
    (cond (r.is_greeting_of j k l x) reply.Greeted (cond (is_single k)
    (cond (int_eq x.number (pos 0)) (r.answer_single j x (r.head (pending j l)))
    (reply.Breach breach.WrongNumber))
    (r.answer_multi j x (find (λ y. int_eq y.number x.number) (sends j l)))))))
    (λ _. Noise (reply.Breach breach.Broken) refl)
    (λ whole. unbroken_heard p j k l x legal whole)

-- such a reply is only given to an Answer
pub record IsAnswered (p : Plan) (j : List Entry) (e : Entry) : Type 0 where
  pub line : ℕ
  pub answer : Answer
  pub is : e.call ≡ call.Answer line answer
  pub heard : Heard j (line_kind p j line) line e.reply

answers_call : (p : Plan) (j : List Entry) (lane : ℕ) (d : Call) (y : Reply) → u.Ruled p j lane d y
    → (is_remark y || is_answer y) ≡ true
    → (l : ℕ) × (x : Answer) × (d ≡ call.Answer l x)
answers_call p j lane d y (u.Greets l x whole greeting) h = (l, x, refl)
answers_call p j lane d y (u.IsWrong l x whole) h = (l, x, refl)
answers_call p j lane d y (u.IsUnasked l x whole) h = (l, x, refl)
answers_call p j lane d y (u.IsNotCancelled l x whole) h = (l, x, refl)
answers_call p j lane d y (u.IsLate l x q is won) h = (l, x, refl)
answers_call p j lane d y (u.IsMatched l x q is free) h = (l, x, refl)
answers_call p j lane d y (u.KillsBroken l z here run broken over) h = absurd (cc)
answers_call p j lane d y (u.Notes z n) h = absurd (cc)
answers_call p j lane d y _ h = absurd (cc)

pub answered_is : (p : Plan) (e : Entry) (j : List Entry) → Lawful p (e ∷ j)
    → (is_remark e.reply || is_answer e.reply) ≡ true → IsAnswered p j e
answered_is p e j legal h =
    let is = answers_call p j e.lane e.call e.reply (v.entry_ruled p e j legal) h in
    let told : e.reply ≡ r.answer_reply_of j (line_kind p j is.0) is.0 is.1 =
    subst (λ (d : Call). lw.Told p j e.lane d e.reply) is.2 legal.1.told in
    record {
      line = is.0;
      answer = is.1;
      is = is.2;
      heard = subst (λ (y : Reply). Heard j (line_kind p j is.0) is.0 y) (sym told)
          (answer_heard p j (line_kind p j is.0) is.0 is.1 legal.0);
    }
