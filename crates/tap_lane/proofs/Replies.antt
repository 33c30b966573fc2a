-- The replies that the calls of a tap lane may get.
use Rattle.std.proofs.Common.{◌≡◌, ◌⊎◌, inl, inr, ⊎_elim, ℕ, true, false, refl, ap, sym, ◌∙◌}
use Rattle.exec_journal.specs.declared.call.Answer.{Answer}
use Rattle.exec_journal.specs.declared.call.Call.TheVariants as call
use Rattle.exec_journal.specs.declared.reply.Reply.{Reply}
use Rattle.exec_journal.specs.declared.reply.Reply.TheVariants as reply
use Rattle.exec_journal.specs.Entries.{is_kept, takes}
use Rattle.exec_journal.specs.Idle.{is_idle}
use Rattle.core_contract.specs.Laws.{says_file, fits_answer, fits_take, fits_noted, Hears, hearing_from}

-- an answer's reply is kept, is no file, leads on to the same line, and gives none
abbrev pub LeadsOn : ℕ → Answer → Reply → Type 0
LeadsOn k x r = (is_kept r ≡ true) × (says_file r ≡ false)
    × (hearing_from (Hears k) (call.Answer k x) r ≡ Hears k) × ((l : ℕ) → takes l r ≡ false)

pub answer_leads : (k : ℕ) (x : Answer) (r : Reply) → fits_answer r ≡ true → LeadsOn k x r
answer_leads k x (reply.Matched a b t) e = (refl, refl, refl, λ l. refl)
answer_leads k x (reply.Late a b t) e = (refl, refl, refl, λ l. refl)
answer_leads k x reply.Greeted e = (refl, refl, refl, λ l. refl)
answer_leads k x (reply.Stray y) e = (refl, refl, refl, λ l. refl)
answer_leads k x (reply.Breach y) e = (refl, refl, refl, λ l. refl)
answer_leads k x (reply.Launch l a b t) e = absurd (cc)
answer_leads k x (reply.Send l n a b t) e = absurd (cc)
answer_leads k x (reply.Cancel l n) e = absurd (cc)
answer_leads k x (reply.Gather l n a b t i j) e = absurd (cc)
answer_leads k x (reply.Kill l y) e = absurd (cc)
answer_leads k x reply.Stop e = absurd (cc)
answer_leads k x reply.Idle e = absurd (cc)
answer_leads k x reply.Noted e = absurd (cc)
answer_leads k x (reply.File f) e = absurd (cc)
answer_leads k x reply.NoFile e = absurd (cc)
answer_leads k x reply.Granted e = absurd (cc)
answer_leads k x reply.Lost e = absurd (cc)
answer_leads k x reply.Dropped e = absurd (cc)
answer_leads k x reply.AgainLater e = absurd (cc)
answer_leads k x (reply.Line l) e = absurd (cc)
answer_leads k x reply.Astray e = absurd (cc)
answer_leads k x reply.NoMemory e = absurd (cc)

pub is_noted : (r : Reply) → fits_noted r ≡ true → r ≡ reply.Noted
is_noted reply.Noted e = refl
is_noted (reply.Launch l a b t) e = absurd (cc)
is_noted (reply.Send l n a b t) e = absurd (cc)
is_noted (reply.Cancel l n) e = absurd (cc)
is_noted (reply.Gather l n a b t i j) e = absurd (cc)
is_noted (reply.Kill l y) e = absurd (cc)
is_noted reply.Stop e = absurd (cc)
is_noted reply.Idle e = absurd (cc)
is_noted (reply.File f) e = absurd (cc)
is_noted reply.NoFile e = absurd (cc)
is_noted reply.Granted e = absurd (cc)
is_noted reply.Lost e = absurd (cc)
is_noted reply.Dropped e = absurd (cc)
is_noted reply.AgainLater e = absurd (cc)
is_noted (reply.Line l) e = absurd (cc)
is_noted (reply.Matched a b t) e = absurd (cc)
is_noted (reply.Late a b t) e = absurd (cc)
is_noted reply.Greeted e = absurd (cc)
is_noted (reply.Stray y) e = absurd (cc)
is_noted (reply.Breach y) e = absurd (cc)
is_noted reply.Astray e = absurd (cc)
is_noted reply.NoMemory e = absurd (cc)

-- a Take's reply is a line, Stop or Idle
abbrev pub OfTake : Reply → Type 0
OfTake r = ((l : ℕ) × (r ≡ reply.Line l)) ⊎ ((r ≡ reply.Stop) ⊎ (r ≡ reply.Idle))

pub of_take : (r : Reply) → fits_take r ≡ true → OfTake r
of_take (reply.Line l) e = inl (l, refl)
of_take reply.Stop e = inr (inl refl)
of_take reply.Idle e = inr (inr refl)
of_take (reply.Launch l a b t) e = absurd (cc)
of_take (reply.Send l n a b t) e = absurd (cc)
of_take (reply.Cancel l n) e = absurd (cc)
of_take (reply.Gather l n a b t i j) e = absurd (cc)
of_take (reply.Kill l y) e = absurd (cc)
of_take reply.Noted e = absurd (cc)
of_take (reply.File f) e = absurd (cc)
of_take reply.NoFile e = absurd (cc)
of_take reply.Granted e = absurd (cc)
of_take reply.Lost e = absurd (cc)
of_take reply.Dropped e = absurd (cc)
of_take reply.AgainLater e = absurd (cc)
of_take (reply.Matched a b t) e = absurd (cc)
of_take (reply.Late a b t) e = absurd (cc)
of_take reply.Greeted e = absurd (cc)
of_take (reply.Stray y) e = absurd (cc)
of_take (reply.Breach y) e = absurd (cc)
of_take reply.Astray e = absurd (cc)
of_take reply.NoMemory e = absurd (cc)

-- so nothing else is one that isn't idle
pub no_other : (r : Reply) → OfTake r → is_idle r ≡ false
    → ((l : ℕ) → r ≡ reply.Line l → ⊥) → (r ≡ reply.Stop → ⊥) → ⊥
no_other r (inl line) busy no_line no_stop = no_line line.0 line.1
no_other r (inr (inl stop)) busy no_line no_stop = no_stop stop
no_other r (inr (inr idle)) busy no_line no_stop =
    let x : true ≡ false = sym (ap is_idle idle) ∙ busy in cc

-- ---- none of them is a file

pub noted_no_file : (r : Reply) → fits_noted r ≡ true → says_file r ≡ false
noted_no_file r e = ap says_file (is_noted r e)

pub take_no_file : (r : Reply) → fits_take r ≡ true → says_file r ≡ false
take_no_file r e = ⊎_elim
    (λ line. ap says_file line.1)
    (λ rest. ⊎_elim (λ stop. ap says_file stop) (λ idle. ap says_file idle) rest)
    (of_take r e)
