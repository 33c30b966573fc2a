-- What a Look leaves: all as it was, but for what the pass has seen.
use Rattle.std.proofs.Common.{◌≡◌, inl, inr, ℕ, ℤ, Bool, true, false, List, [], Option, Some, None, refl, ap, sym, ◌∙◌, append-nil}
use Rattle.seat_desk.specs.declared.view.View.{View}
use Rattle.seat_desk.specs.History.{entry, calls_by, GoesOn, StartsWith, IsReply}
use Rattle.seat_desk.specs.Desks.{Grows}
use Rattle.exec_journal.specs.declared.attempt.Attempt.{Attempt}
use Rattle.exec_journal.specs.declared.call.Call.{Call}
use Rattle.exec_journal.specs.declared.call.Call.TheVariants as call
use Rattle.exec_journal.specs.declared.call.Wanted.{Wanted}
use Rattle.exec_journal.specs.declared.reply.Reply.{Reply}
use Rattle.exec_journal.specs.declared.reply.Reply.TheVariants as reply
use Rattle.exec_journal.specs.Entries.{is_kept}
use Rattle.core_contract.specs.Discipline.{Discipline, makers_in}
use Rattle.core_contract.specs.Moves.{History}
use Rattle.core_contract.specs.Laws.{is_short, says_file, fits_look, Fits, InScript}
use Rattle.core_contract.specs.Duties.{Duty, Sends, is_maker, may_do, duty_of, proxy_lane}
use Rattle.run_plan.specs.declared.plan.Maker.{Maker}
use Rattle.exec_journal.specs.declared.call.Wanted.TheVariants as wanted
use Rattle.core_machine.specs.BenchLaws.{short_not_kept}
use Rattle.proxy_words.specs.Told.{reply_for, IsTold}
use Rattle.proxy_calls.specs.Looks.{told_as, OwesSend}
use Rattle.proxy_calls.proofs.Replies.{look_not_kept}
use Rattle.proxy_calls.proofs.Entries.{keeps, same_after, own_at, scripted}

not_short : (o : Option (List ℕ)) → is_short (reply_for o) ≡ false
not_short None = refl
not_short (Some bytes) = refl

module _ {Q : Type 0} (rule : History → ℕ → Call → Reply) (lane w : ℕ) (may : Duty → Call → Bool)
    (v v' : View Call Reply Q) (x : Wanted) (r : Reply) (h : History)
    (goes : GoesOn lane v.seen h)
    (answer : IsReply rule is_short (λ h n x. says_file (rule h n x) ≡ true) h lane (call.Look x) r)
    (grows : Grows keeps lane v h (entry lane (call.Look x) r) v')
    (idle : calls_by lane v.seen ≡ v.mine) (is : lane ≡ proxy_lane w)
    (can : may (duty_of v.mine) (call.Look x) ≡ true)
    (fit : (h : History) → Fits (call.Look x) (rule h lane (call.Look x)))
    (law : (h : History) → may (duty_of (calls_by (proxy_lane w) h)) (call.Look x) ≡ true
    → InScript rule h (proxy_lane w) (call.Look x)) where
  abbrev MayBe : History → ℕ → Call → Type 0
  MayBe h n c = says_file (rule h n c) ≡ true

  by_reply : IsReply rule is_short MayBe h lane (call.Look x) r → is_kept r ≡ false
  by_reply (inl e) = look_not_kept r (ap fits_look e ∙ fit h
      (scripted rule lane w (call.Look x) may v.mine is can law h (own_at lane v h goes idle)))
  by_reply (inr t) = short_not_kept r t.0

  -- the lane made no entry
  pub looks_none : StartsWith v'.seen v.seen × (v'.mine ≡ v.mine)
  looks_none = (
    (goes.0, grows.0 ∙ (same_after h (entry lane (call.Look x) r) (by_reply answer) ∙ goes.1)),
    grows.1 ∙ same_after v.mine (entry lane (call.Look x) r) (by_reply answer),
  )

  by_rule : (o : Option (List ℕ)) → r ≡ reply_for o
      → IsReply rule is_short MayBe h lane (call.Look x) r
      → rule h lane (call.Look x) ≡ reply_for o
  by_rule o so (inl e) = sym e ∙ so
  by_rule o so (inr t) =
      absurd (let y : true ≡ false = sym t.0 ∙ (ap is_short so ∙ not_short o) in cc)

  -- a reply that isn't short is the rule's
  pub looks_told : (o : Option (List ℕ)) → r ≡ reply_for o
      → IsTold rule lane v'.seen (told_as x o)
  looks_told o so = (
    h,
    (
      [],
      (grows.0 ∙ same_after h (entry lane (call.Look x) r) (by_reply answer))
          ∙ sym (append-nil h),
    ),
    by_rule o so answer,
  )

  -- where there is a file, it isn't said that there is none
  pub looks_found : says_file (rule h lane (call.Look x)) ≡ true → r ≡ reply.NoFile → ⊥
  looks_found there so =
      let none : rule h lane (call.Look x) ≡ reply.NoFile = by_rule None so answer in
      let y : true ≡ false = sym there ∙ ap says_file none in cc

-- ---- a made input of a request

pub may_look_made : (discipline : Discipline) (w : ℕ)
    (own : History) (t : Attempt) (m : Maker) → OwesSend t own
    → is_maker (makers_in discipline.plan t.action) m.action m.output ≡ true
    → may_do discipline w (duty_of own) (call.Look (wanted.Made m.action m.output)) ≡ true
may_look_made discipline w own t m owes made =
    ap (λ (s : Duty). may_do discipline w s (call.Look (wanted.Made m.action m.output))) owes.2
    ∙ made

pub duty_there : (lane w l : ℕ) (n : ℤ) (t : Attempt) (h own : History) → lane ≡ proxy_lane w
    → calls_by lane h ≡ own → duty_of own ≡ Sends l n t
    → duty_of (calls_by (proxy_lane w) h) ≡ Sends l n t
duty_there lane w l n t h own is own_is owes =
    ap (λ (k : ℕ). duty_of (calls_by k h)) (sym is) ∙ (ap duty_of own_is ∙ owes)
