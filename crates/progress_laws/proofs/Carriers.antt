-- The line on which an attempt was launched or sent.
use Rattle.std.proofs.Common.{◌≡◌, ℕ, ◌/◌, true, cond, List, [], ◌∷◌, Option, Some, None, is_some, option_map, inl, inr, refl, sym, subst, ◌∙◌}
use Rattle.std.proofs.lemmas.Bool.{or_cases}
use Rattle.run_plan.specs.declared.plan.Plan.{Plan}
use Rattle.exec_journal.specs.declared.attempt.Attempt.{Attempt}
use Rattle.exec_journal.specs.declared.reply.Reply.{Reply}
use Rattle.exec_journal.specs.declared.reply.Reply.TheVariants as reply
use Rattle.exec_journal.specs.Entry.{Entry}
use Rattle.exec_journal.specs.Entries.{attempt_of, same_attempt, is_for, send_in}
use Rattle.exec_journal.specs.Attempts.{begun_in, carrier_in, line_of}
use Rattle.exec_journal.specs.Facts.{begun, reply_line, IsOfBerth, OfBerth}
use Rattle.exec_journal.specs.Lawful.{Lawful}
use Rattle.exec_journal.specs.Words.{started, was_sent}
use Rattle.exec_journal.proofs.Ruled.{by_bool}
use Rattle.exec_journal.proofs.Lines.{lines_named, of_berth_more}
use Rattle.journal_laws.proofs.Carried as k
use Rattle.journal_laws.proofs.Claims as c
use Rattle.journal_laws.proofs.Claims.{clash, false_by}
use Rattle.journal_laws.proofs.Over as v
use Rattle.journal_laws.proofs.Races as ra
use Rattle.exec_journal.proofs.Begins.{begin_in_order}
use Rattle.journal_laws.proofs.Vacant as va
use Rattle.call_laws.proofs.LineEnds as le
use Rattle.progress_laws.proofs.Options.{some_left, some_right, some_same}

-- ---- each attempt that was begun has one, of some berth

carrier_of_begin : (t : Attempt) (x : Reply) → is_for t (begun_in x) ≡ true
    → is_some (carrier_in t x) ≡ true
carrier_of_begin t (reply.Launch l a b n) h = rw h refl
carrier_of_begin t (reply.Send l m a b n) h = rw h refl
carrier_of_begin t _ h = absurd (cc)

pub begun_carried : (j : List Entry) (t : Attempt) → begun j t ≡ true → is_some (line_of j t) ≡ true
unfolding begun line_of
begun_carried [] t h = absurd (cc)
begun_carried (e ∷ j) t h = elim (or_cases (is_for t (begun_in e.reply)) (begun j t) h) [
  | inl here ↦ some_left (carrier_in t e.reply) (line_of j t) (carrier_of_begin t e.reply here)
  | inr before ↦ some_right (carrier_in t e.reply) (line_of j t) (begun_carried j t before)
]

carrier_named : (t : Attempt) (x : Reply) (l : ℕ) → carrier_in t x ≡ Some l → reply_line x ≡ Some l
carrier_named t (reply.Launch m a b n) l h =
    by_bool (same_attempt (attempt_of a b n) t) (λ z. cond z (Some m) None ≡ Some l
    → Some m ≡ Some l) (λ _ y. y) (λ _ y. absurd (cc)) h
carrier_named t (reply.Send m o a b n) l h =
    by_bool (same_attempt (attempt_of a b n) t) (λ z. cond z (Some m) None ≡ Some l
    → Some m ≡ Some l) (λ _ y. y) (λ _ y. absurd (cc)) h
carrier_named t _ l h = absurd (cc)

pub carried_own : (p : Plan) (j : List Entry) (t : Attempt) (l : ℕ) → Lawful p j
    → line_of j t ≡ Some l → (w : ℕ) × IsOfBerth j l w
unfolding line_of
carried_own p [] t l legal h = absurd (cc)
carried_own p (e ∷ j) t l legal h = elim (k.or_some (carrier_in t e.reply) (line_of j t) l h) [
  | inl here ↦ (
    e.lane / 2,
    subst (λ (x : Option ℕ). OfBerth (e ∷ j) x (e.lane / 2))
        (carrier_named t e.reply l here) (lines_named p (e ∷ j) legal).1.replied,
  )
  | inr before ↦ (let own = carried_own p j t l legal.0 before in
      (own.0, of_berth_more e j l own.0 (lines_named p (e ∷ j) legal).1.numbered own.1))
]

-- ---- a line to which something was sent was started

pub sent_up : (p : Plan) (j : List Entry) (t : Attempt) (l : ℕ) → Lawful p j → was_sent j t ≡ true
    → line_of j t ≡ Some l → started j l ≡ true
unfolding was_sent
sent_up p [] t l legal h at = absurd (cc)
sent_up p (e ∷ j) t l legal h at =
    elim (or_cases (is_for t (option_map (λ y. y.attempt) (send_in e.reply))) (was_sent j t) h) [
      | inl here ↦ (let it = k.send_of j e.reply t (begin_in_order p (e ∷ j) legal).1 here in
          let on = ra.sent_line e j e.reply it.request refl it.is in
          let same : it.request.line ≡ l = some_same it.request.line l
          (sym (subst (λ (y : Attempt). line_of (e ∷ j) y ≡ Some it.request.line) it.of on.carrier)
          ∙ at) in
          subst (λ i. started (e ∷ j) i ≡ true) same (va.started_later e j it.request.line
          (c.live_started j it.request.line (c.sends_live p j e.lane e.call e.reply it.request
          (v.entry_ruled p e j legal) it.is))))
      | inr before ↦ (let old = le.sent_request p j t legal.0 before in
          let same : old.request.line ≡ l = some_same old.request.line l
          (sym (k.line_stays e j t old.request.line (begin_in_order p (e ∷ j) legal) old.carrier)
          ∙ at) in
          va.started_later e j l (sent_up p j t l legal.0 before
          (subst (λ i. line_of j t ≡ Some i) same old.carrier)))
    ]
