-- A tap lane hears its line until it has made its Ended, and no line has two.
use Rattle.std.proofs.Common.{◌≡◌, ℕ, ◌/◌, ◌%◌, ◌==◌, Bool, true, false, ◌&&◌, not, List, [], ◌∷◌, Option, Some, None, ◌⊎◌, inl, inr, refl, sym, ap, subst, ◌∙◌, arith}
use Rattle.std.proofs.lemmas.Bool.{eqb-true, eqb-false, eq-eqb, and_parts, and_from, or_cases, or_left, or_right}
use Rattle.run_plan.specs.declared.plan.Plan.{Plan}
use Rattle.run_plan.specs.declared.plan.Kind.TheVariants as kind
use Rattle.exec_journal.specs.Entry.{Entry}
use Rattle.exec_journal.specs.declared.call.Answer.{Answer}
use Rattle.exec_journal.specs.declared.call.Call.{Call}
use Rattle.exec_journal.specs.declared.call.Call.TheVariants as call
use Rattle.exec_journal.specs.declared.reply.Reply.{Reply}
use Rattle.exec_journal.specs.declared.reply.Reply.TheVariants as reply
use Rattle.exec_journal.specs.Entries.{takes, ends}
use Rattle.exec_journal.specs.Words.{last_work, was_taken, has_ended}
use Rattle.run_plan.specs.Groups.{kind_of}
use Rattle.exec_journal.specs.Lawful as lw
use Rattle.exec_journal.specs.Scripts as sc
use Rattle.exec_journal.specs.Lawful.{Lawful}
use Rattle.exec_journal.specs.Facts.{IsOfBerth}
use Rattle.exec_journal.proofs.Reasons as u
use Rattle.exec_journal.proofs.Ruled.{by_bool, not_true}
use Rattle.exec_journal.proofs.Lines.{last_work_own, WorkOwn, lines_named, hears_own}
use Rattle.journal_laws.proofs.Owed as o
use Rattle.journal_laws.proofs.Owed.{is_work}
use Rattle.journal_laws.proofs.Over as v
use Rattle.journal_laws.proofs.Claims.{clash, false_by}
use Rattle.journal_laws.proofs.Endings as en
use Rattle.journal_laws.proofs.Lanes as la

-- what a tap lane reports of its line
abbrev pub reports : ℕ → Call → Bool
reports l (call.Answer m x) = m == l
reports l (call.Ended m how) = m == l
reports l _ = false

hears_by : (p : Plan) (l : ℕ) (even : Bool) (w : Option Entry) (d : Call) → reports l d ≡ true → sc.allowed p kind.Single even w d ≡ true → (sc.hears w l ≡ true) × (even ≡ false)
hears_by p l even w (call.Answer m x) h y = let parts = and_parts (not even) _ y in (subst (λ i. sc.hears w i ≡ true) (eqb-true m l h) parts.1, not_true _ parts.0)
hears_by p l even w (call.Ended m how) h y = let parts = and_parts (not even) _ y in (subst (λ i. sc.hears w i ≡ true) (eqb-true m l h) parts.1, not_true _ parts.0)
hears_by p l even w _ h y = absurd (cc)

no_report : (l : ℕ) (d : Call) (w : Option Entry) → reports l d ≡ true → sc.is_owed_commit d w ≡ true → ⊥
no_report l (call.Answer m x) w h y = cc
no_report l (call.Ended m how) w h y = cc
no_report l _ w h y = cc

pub report_heard : (p : Plan) (e : Entry) (j : List Entry) (l : ℕ) → Lawful p (e ∷ j) → reports l e.call ≡ true → (sc.hears (last_work j e.lane) l ≡ true) × ((e.lane % 2 == 0) ≡ false)
report_heard p e j l legal h = elim (o.scripts p j e.lane e.call legal.1.scripted) [
  | o.Owes owes ↦ absurd (no_report l e.call (last_work j e.lane) h owes)
  | o.Ticks is proxy ask ↦ absurd (let n : reports l call.Tick ≡ true = subst (λ (d : Call). reports l d ≡ true) is h in cc)
  | o.May may ↦ hears_by p l (e.lane % 2 == 0) (last_work j e.lane) e.call h may
]

-- the newest work of a tap lane that hears the line
pub record Hears (j : List Entry) (lane l : ℕ) : Type 0 where
  pub work : Entry
  pub newest : last_work j lane ≡ Some work
  pub line : sc.hears_after l work.call work.reply ≡ true

hears_is : (j : List Entry) (lane l : ℕ) → sc.hears (last_work j lane) l ≡ true → Hears j lane l
hears_is j lane l h = by (last_work j lane) refl h
  where
    by : (w : Option Entry) → last_work j lane ≡ w → sc.hears w l ≡ true → Hears j lane l
    by (Some d) is y = record { work = d; newest = is; line = y }
    by None is y = absurd (cc)

-- it is given the line, or answers
pub data HearsBy (l : ℕ) (c : Call) (x : Reply) : Type 0 where
  Given : x ≡ reply.Line l → HearsBy l c x
  Answers : (a : Answer) → c ≡ call.Answer l a → HearsBy l c x

pub hears_cases : (l : ℕ) (c : Call) (x : Reply) → sc.hears_after l c x ≡ true → HearsBy l c x
hears_cases l c (reply.Line m) h = Given (ap reply.Line (eqb-true m l h))
hears_cases l (call.Answer m a) _ h = Answers a (ap (λ n. call.Answer n a) (eqb-true m l h))
hears_cases l _ _ h = absurd (cc)

pub take_line : (p : Plan) (j : List Entry) (lane l : ℕ) (d : Call) (x : Reply) → u.Ruled p j lane d x → x ≡ reply.Line l → (d ≡ call.Take) × (was_taken j l ≡ false)
take_line p j lane l d x (u.Takes m here up new) h = (let n : m ≡ l = cc in (refl, subst (λ i. was_taken j i ≡ false) n new))
take_line p j lane l d x (u.KillsBroken m y here run broken over) h = absurd (cc)
take_line p j lane l d x (u.Notes e n) h = absurd (cc)
take_line p j lane l d x _ h = absurd (cc)

take_odd : (p : Plan) (e : Entry) (j : List Entry) → Lawful p (e ∷ j) → e.call ≡ call.Take → (e.lane % 2 == 0) ≡ false
take_odd p e j legal is = elim (o.scripted p j e.lane call.Take refl (subst (λ (d : Call). lw.in_script p j e.lane d ≡ true) is legal.1.scripted)) [
  | inl owes ↦ absurd (cc)
  | inr may ↦ not_true _ (and_parts (not (e.lane % 2 == 0)) _ may).0
]

-- the lane is a tap lane
pub hearing_odd : (p : Plan) (j : List Entry) (lane l : ℕ) (d : Entry) → Lawful p j → last_work j lane ≡ Some d → sc.hears_after l d.call d.reply ≡ true → (lane % 2 == 0) ≡ false
unfolding last_work
hearing_odd p [] lane l d legal h y = absurd (cc)
hearing_odd p (e ∷ j) lane l d legal h y = by (o.newest_cases e j lane d h) (λ m. hearing_odd p j lane l d legal.0 m y)
  where
    own : HearsBy l e.call e.reply → (e.lane % 2 == 0) ≡ false
    own (Given is) = take_odd p e j legal (take_line p j e.lane l e.call e.reply (v.entry_ruled p e j legal) is).0
    own (Answers a is) = (let h : reports l e.call ≡ true = rw is (eq-eqb l l refl) in (report_heard p e j l legal h).1)

    by : ((e ≡ d) × (e.lane ≡ lane) × (is_work e.call ≡ true)) ⊎ ((((e.lane == lane) && is_work e.call) ≡ false) × (last_work j lane ≡ Some d)) → (last_work j lane ≡ Some d → (lane % 2 == 0) ≡ false) → (lane % 2 == 0) ≡ false
    by (inl here) ih = subst (λ n. (n % 2 == 0) ≡ false) here.1 (own (hears_cases l e.call e.reply (subst (λ (x : Entry). sc.hears_after l x.call x.reply ≡ true) (sym here.0) y)))
    by (inr before) ih = ih before.1

hearing_own : (p : Plan) (j : List Entry) (lane l : ℕ) (d : Entry) → Lawful p j → last_work j lane ≡ Some d → sc.hears_after l d.call d.reply ≡ true → IsOfBerth j l (lane / 2)
hearing_own p j lane l d legal h y =
    let own : WorkOwn j (Some d) (lane / 2) = subst (λ (x : Option Entry). WorkOwn j x (lane / 2)) h (last_work_own lane j (lines_named p j legal)) in
    hears_own j (lane / 2) l d.call d.reply y own.0 own.1

one_tap : (m n : ℕ) → (m % 2 == 0) ≡ false → (n % 2 == 0) ≡ false → m / 2 ≡ n / 2 → m ≡ n
one_tap m n a b same = let x = eqb-false (m % 2) 0 a in let y = eqb-false (n % 2) 0 b in omega (arith, x, y)

-- so only one lane hears it
pub one_hears : (p : Plan) (j : List Entry) (m n l : ℕ) (c d : Entry) → Lawful p j → last_work j m ≡ Some c → last_work j n ≡ Some d → sc.hears_after l c.call c.reply ≡ true → sc.hears_after l d.call d.reply ≡ true → m ≡ n
one_hears p j m n l c d legal h k y z =
    one_tap m n (hearing_odd p j m l c legal h y) (hearing_odd p j n l d legal k z) (la.berths_same j l (m / 2) (n / 2) (hearing_own p j m l c legal h y) (hearing_own p j n l d legal k z))

taken_later : (e : Entry) (j : List Entry) (l : ℕ) → was_taken j l ≡ true → was_taken (e ∷ j) l ≡ true
unfolding was_taken
taken_later e j l h = or_right (takes l e.reply) _ h

taken_here : (e : Entry) (j : List Entry) (l : ℕ) → e.reply ≡ reply.Line l → was_taken (e ∷ j) l ≡ true
unfolding was_taken
taken_here e j l h = or_left (takes l e.reply) _ (rw h (eq-eqb l l refl))

hearing_taken : (p : Plan) (j : List Entry) (lane l : ℕ) (d : Entry) → Lawful p j → last_work j lane ≡ Some d → sc.hears_after l d.call d.reply ≡ true → was_taken j l ≡ true
unfolding last_work
hearing_taken p [] lane l d legal h y = absurd (cc)
hearing_taken p (e ∷ j) lane l d legal h y = by (o.newest_cases e j lane d h) (λ n w m z. hearing_taken p j n l w legal.0 m z)
  where
    own : HearsBy l e.call e.reply → ((n : ℕ) (w : Entry) → last_work j n ≡ Some w → sc.hears_after l w.call w.reply ≡ true → was_taken j l ≡ true) → was_taken (e ∷ j) l ≡ true
    own (Given is) ih = taken_here e j l is
    own (Answers a is) ih =
        let r : reports l e.call ≡ true = rw is (eq-eqb l l refl) in
        let before = hears_is j e.lane l (report_heard p e j l legal r).0 in
        taken_later e j l (ih e.lane before.work before.newest before.line)

    by : ((e ≡ d) × (e.lane ≡ lane) × (is_work e.call ≡ true)) ⊎ ((((e.lane == lane) && is_work e.call) ≡ false) × (last_work j lane ≡ Some d))
        → ((n : ℕ) (w : Entry) → last_work j n ≡ Some w → sc.hears_after l w.call w.reply ≡ true → was_taken j l ≡ true) → was_taken (e ∷ j) l ≡ true
    by (inl here) ih = own (hears_cases l e.call e.reply (subst (λ (x : Entry). sc.hears_after l x.call x.reply ≡ true) (sym here.0) y)) ih
    by (inr before) ih = taken_later e j l (ih lane d before.1 y)

-- a line that has Ended was taken
pub ended_taken : (p : Plan) (j : List Entry) (l : ℕ) → Lawful p j → has_ended j l ≡ true → was_taken j l ≡ true
unfolding has_ended
ended_taken p [] l legal h = absurd (cc)
ended_taken p (e ∷ j) l legal h = taken_later e j l (elim (or_cases (ends l e.call) (has_ended j l) h) [
  | inl here ↦ (let x = en.ends_is l e.call here in
      let r : reports l e.call ≡ true = rw x.1 (eq-eqb l l refl) in
      let heard = hears_is j e.lane l (report_heard p e j l legal r).0 in
      hearing_taken p j e.lane l heard.work legal.0 heard.newest heard.line)
  | inr before ↦ ended_taken p j l legal.0 before
])

ended_line_same : (e : Entry) (j : List Entry) (l : ℕ) → ends l e.call ≡ false → has_ended (e ∷ j) l ≡ has_ended j l
unfolding has_ended
ended_line_same e j l h = rw h refl

-- a line that is heard hasn't Ended
pub heard_running : (p : Plan) (j : List Entry) (lane l : ℕ) (d : Entry) → Lawful p j → last_work j lane ≡ Some d → sc.hears_after l d.call d.reply ≡ true → has_ended j l ≡ false
unfolding last_work
heard_running p [] lane l d legal h y = absurd (cc)
heard_running p (e ∷ j) lane l d legal h y = by (o.newest_cases e j lane d h) (λ n w m z. heard_running p j n l w legal.0 m z)
  where
    own : HearsBy l e.call e.reply → ((n : ℕ) (w : Entry) → last_work j n ≡ Some w → sc.hears_after l w.call w.reply ≡ true → has_ended j l ≡ false) → has_ended (e ∷ j) l ≡ false
    own (Given is) ih =
        let t = take_line p j e.lane l e.call e.reply (v.entry_ruled p e j legal) is in
        let calm : ends l e.call ≡ false = rw t.0 refl in
        ended_line_same e j l calm ∙ false_by _ (λ gone. clash (was_taken j l) (ended_taken p j l legal.0 gone) t.1)
    own (Answers a is) ih =
        let r : reports l e.call ≡ true = rw is (eq-eqb l l refl) in
        let before = hears_is j e.lane l (report_heard p e j l legal r).0 in
        let calm : ends l e.call ≡ false = rw is refl in
        ended_line_same e j l calm ∙ ih e.lane before.work before.newest before.line

    quiet : last_work j lane ≡ Some d → ((e.lane == lane) && is_work e.call) ≡ false → ends l e.call ≡ true → ⊥
    quiet at off here =
        let x = en.ends_is l e.call here in
        let r : reports l e.call ≡ true = rw x.1 (eq-eqb l l refl) in
        let heard = hears_is j e.lane l (report_heard p e j l legal r).0 in
        let same = one_hears p j e.lane lane l heard.work d legal.0 heard.newest at heard.line y in
        let works : is_work e.call ≡ true = rw x.1 refl in
        clash ((e.lane == lane) && is_work e.call) (and_from _ _ (eq-eqb e.lane lane same) works) off

    by : ((e ≡ d) × (e.lane ≡ lane) × (is_work e.call ≡ true)) ⊎ ((((e.lane == lane) && is_work e.call) ≡ false) × (last_work j lane ≡ Some d))
        → ((n : ℕ) (w : Entry) → last_work j n ≡ Some w → sc.hears_after l w.call w.reply ≡ true → has_ended j l ≡ false) → has_ended (e ∷ j) l ≡ false
    by (inl here) ih = own (hears_cases l e.call e.reply (subst (λ (x : Entry). sc.hears_after l x.call x.reply ≡ true) (sym here.0) y)) ih
    by (inr before) ih = ended_line_same e j l (false_by _ (λ now. quiet before.1 before.0 now)) ∙ ih lane d before.1 y

-- a tap lane reports of a line that hasn't Ended
pub reported_running : (p : Plan) (e : Entry) (j : List Entry) (l : ℕ) → Lawful p (e ∷ j) → reports l e.call ≡ true → has_ended j l ≡ false
reported_running p e j l legal h = let heard = hears_is j e.lane l (report_heard p e j l legal h).0 in heard_running p j e.lane l heard.work legal.0 heard.newest heard.line
