-- Who tells of a line in a legal history.
use Rattle.std.proofs.Common.{◌≡◌, ◌||◌, ◌⊎◌, inl, inr, ⊎_elim, ℕ, ◌==◌, Bool, true, false, cond, List, [], ◌∷◌, ◌++◌, refl, ap, sym, subst, ◌∙◌, append-nil, eq-eqb}
use Rattle.std.proofs.lemmas.Bool.{eqb-true}
use Rattle.seat_desk.specs.History.{calls_by}
use Rattle.seat_desk.proofs.Lines.{calls-append}
use Rattle.exec_journal.specs.declared.call.Call.{Call}
use Rattle.exec_journal.specs.declared.call.Call.TheVariants as call
use Rattle.exec_journal.specs.declared.reply.Reply.{Reply}
use Rattle.exec_journal.specs.declared.reply.Reply.TheVariants as reply
use Rattle.exec_journal.specs.Entries.{is_kept, takes}
use Rattle.core_contract.specs.Ruled.{CameAbout, answer_after}
use Rattle.core_contract.specs.Keeps.{Keeps}
use Rattle.core_contract.specs.Discipline.{Discipline}
use Rattle.core_contract.specs.Moves.{Past, History}
use Rattle.core_contract.specs.Laws.{fits, Fits, InScript, Hearing, Free, Hears, Over, leads_by_call, leads_by_line, hearing_from, hearing_by, hearing_of, tells_of, is_taken}
use Rattle.tap_lane.proofs.Entries.{hearing_more}
use Rattle.lane_laws.specs.Pipes.{Each}

-- ---- what a single call does

-- a call after which the line is heard tells of it, or it was heard before
leads_on : (s : Hearing) (l : ℕ) (c : Call) → leads_by_call s c ≡ Hears l
    → (tells_of l c ≡ true) ⊎ (s ≡ Hears l)
leads_on s l call.Ask e = absurd (cc)
leads_on s l (call.Launched m how) e = absurd (cc)
leads_on s l (call.Wrote m n how) e = absurd (cc)
leads_on s l (call.Look w) e = inr e
leads_on s l (call.Claim a b t f) e = absurd (cc)
leads_on s l (call.Committed a b how) e = absurd (cc)
leads_on s l (call.Killed m) e = absurd (cc)
leads_on s l call.Tick e = absurd (cc)
leads_on s l call.Take e = absurd (cc)
leads_on s l (call.Answer m x) e = inl (eq-eqb m l (cc))
leads_on s l (call.Ended m how) e = absurd (cc)
leads_on s l call.Halt e = absurd (cc)

leads_to : (s : Hearing) (k l : ℕ) (c : Call) → leads_by_line k s c ≡ Hears l
    → (k ≡ l) ⊎ (s ≡ Hears l)
leads_to s k l call.Ask e = inl (cc)
leads_to s k l (call.Launched m how) e = inl (cc)
leads_to s k l (call.Wrote m n how) e = inl (cc)
leads_to s k l (call.Look w) e = inr e
leads_to s k l (call.Claim a b t f) e = inl (cc)
leads_to s k l (call.Committed a b how) e = inl (cc)
leads_to s k l (call.Killed m) e = inl (cc)
leads_to s k l call.Tick e = inl (cc)
leads_to s k l call.Take e = inl (cc)
leads_to s k l (call.Answer m x) e = inl (cc)
leads_to s k l (call.Ended m how) e = inl (cc)
leads_to s k l call.Halt e = absurd (cc)

-- a lane hears a line after an entry that gives it, one that tells of it, or as before
abbrev Why : Hearing → ℕ → Call → Reply → Type 0
Why s l c r = (r ≡ reply.Line l) ⊎ ((tells_of l c ≡ true) ⊎ (s ≡ Hears l))

line_why : (s : Hearing) (k l : ℕ) (c : Call) → (k ≡ l) ⊎ (s ≡ Hears l)
    → Why s l c (reply.Line k)
line_why s k l c (inl e) = inl (ap reply.Line e)
line_why s k l c (inr e) = inr (inr e)

from_why : (s : Hearing) (l : ℕ) (c : Call) (r : Reply) → hearing_from s c r ≡ Hears l
    → Why s l c r
from_why s l c (reply.Launch m a b t) e = inr (leads_on s l c e)
from_why s l c (reply.Send m n a b t) e = inr (leads_on s l c e)
from_why s l c (reply.Cancel m n) e = inr (leads_on s l c e)
from_why s l c (reply.Gather m n a b t i j) e = inr (leads_on s l c e)
from_why s l c (reply.Kill m y) e = inr (leads_on s l c e)
from_why s l c reply.Stop e = absurd (cc)
from_why s l c reply.Idle e = inr (leads_on s l c e)
from_why s l c reply.Noted e = inr (leads_on s l c e)
from_why s l c (reply.File f) e = inr (leads_on s l c e)
from_why s l c reply.NoFile e = inr (leads_on s l c e)
from_why s l c reply.Granted e = inr (leads_on s l c e)
from_why s l c reply.Lost e = inr (leads_on s l c e)
from_why s l c reply.Dropped e = inr (leads_on s l c e)
from_why s l c reply.AgainLater e = inr (leads_on s l c e)
from_why s l c (reply.Line m) e = line_why s m l c (leads_to s m l c e)
from_why s l c (reply.Matched a b t) e = inr (leads_on s l c e)
from_why s l c (reply.Late a b t) e = inr (leads_on s l c e)
from_why s l c reply.Greeted e = inr (leads_on s l c e)
from_why s l c (reply.Stray y) e = inr (leads_on s l c e)
from_why s l c (reply.Breach y) e = inr (leads_on s l c e)
from_why s l c reply.Astray e = inr (leads_on s l c e)
from_why s l c reply.NoMemory e = inr (leads_on s l c e)

by_why : (s : Hearing) (l : ℕ) (c : Call) (r : Reply) → hearing_by s c r ≡ Hears l → Why s l c r
by_why Over l c r e = absurd (cc)
by_why Free l c r e = from_why Free l c r e
by_why (Hears k) l c r e = from_why (Hears k) l c r e

-- a reply that gives a line
gives_line : (l : ℕ) (r : Reply) → takes l r ≡ true → r ≡ reply.Line l
gives_line l (reply.Launch m a b t) e = absurd (cc)
gives_line l (reply.Send m n a b t) e = absurd (cc)
gives_line l (reply.Cancel m n) e = absurd (cc)
gives_line l (reply.Gather m n a b t i j) e = absurd (cc)
gives_line l (reply.Kill m y) e = absurd (cc)
gives_line l reply.Stop e = absurd (cc)
gives_line l reply.Idle e = absurd (cc)
gives_line l reply.Noted e = absurd (cc)
gives_line l (reply.File f) e = absurd (cc)
gives_line l reply.NoFile e = absurd (cc)
gives_line l reply.Granted e = absurd (cc)
gives_line l reply.Lost e = absurd (cc)
gives_line l reply.Dropped e = absurd (cc)
gives_line l reply.AgainLater e = absurd (cc)
gives_line l (reply.Line m) e = ap reply.Line (eqb-true m l e)
gives_line l (reply.Matched a b t) e = absurd (cc)
gives_line l (reply.Late a b t) e = absurd (cc)
gives_line l reply.Greeted e = absurd (cc)
gives_line l (reply.Stray y) e = absurd (cc)
gives_line l (reply.Breach y) e = absurd (cc)
gives_line l reply.Astray e = absurd (cc)
gives_line l reply.NoMemory e = absurd (cc)

-- is that of a Take
takes_only : (l : ℕ) (c : Call) → fits c (reply.Line l) ≡ true → c ≡ call.Take
takes_only l call.Ask e = absurd (cc)
takes_only l (call.Launched m how) e = absurd (cc)
takes_only l (call.Wrote m n how) e = absurd (cc)
takes_only l (call.Look w) e = absurd (cc)
takes_only l (call.Claim a b t f) e = absurd (cc)
takes_only l (call.Committed a b how) e = absurd (cc)
takes_only l (call.Killed m) e = absurd (cc)
takes_only l call.Tick e = absurd (cc)
takes_only l call.Take e = refl
takes_only l (call.Answer m x) e = absurd (cc)
takes_only l (call.Ended m how) e = absurd (cc)
takes_only l call.Halt e = absurd (cc)

astray_is_not_kept : is_kept reply.Astray ≡ false
astray_is_not_kept = refl

-- ---- the lanes that were given a line

abbrev pub takers : ℕ → History → List ℕ
takers l [] = []
takers l (e ∷ h) = cond (takes l e.reply) (e.lane ∷ takers l h) (takers l h)

pub takers_append : (l : ℕ) (g h : History) → takers l (g ++ h) ≡ takers l g ++ takers l h
takers_append l [] h = refl
takers_append l (e ∷ g) h = elim (takes l e.reply) as (λ b.
    cond b (e.lane ∷ takers l (g ++ h)) (takers l (g ++ h))
    ≡ cond b (e.lane ∷ takers l g) (takers l g) ++ takers l h) [
      | true ↦ ap (λ (ks : List ℕ). e.lane ∷ ks) (takers_append l g h)
      | false ↦ takers_append l g h
    ]

none_or : (b c : Bool) → (b || c) ≡ false → (b ≡ false) × (c ≡ false)
none_or true c e = absurd (cc)
none_or false c e = (refl, e)

pub no_takers : (l : ℕ) (h : History) → is_taken l h ≡ false → takers l h ≡ []
no_takers l [] e = refl
no_takers l (x ∷ h) e =
    let n = none_or (takes l x.reply) (is_taken l h) e in
    ap (λ (b : Bool). cond b (x.lane ∷ takers l h) (takers l h)) n.0 ∙ no_takers l h n.1

-- ---- a history, entry after entry

abbrev rev : History → History
rev [] = []
rev (e ∷ h) = rev h ++ e ∷ []

rev_last : (h : History) (e : Past) → rev (h ++ e ∷ []) ≡ e ∷ rev h
rev_last [] e = refl
rev_last (x ∷ h) e = ap (λ (g : History). g ++ x ∷ []) (rev_last h e)

reversed : (h : History) → (r : History) × (h ≡ rev r)
reversed [] = ([], refl)
reversed (e ∷ h) =
    let r = reversed h in
    (r.0 ++ e ∷ [], ap (λ (g : History). e ∷ g) r.1 ∙ sym (rev_last r.0 e))

-- each line was given once at most; a lane that hears a line was given it, and so was one that
-- tells of it
pub record Told (h : History) : Type 0 where
  pub once : (l : ℕ) → (takers l h ≡ []) ⊎ ((k : ℕ) × (takers l h ≡ k ∷ []))
  pub hears : (k l : ℕ) → hearing_of (calls_by k h) ≡ Hears l → takers l h ≡ k ∷ []
  pub tells : (l : ℕ) → Each (λ e. tells_of l e.call ≡ true → takers l h ≡ e.lane ∷ []) h

told_nothing : Told []
told_nothing = record {
  once = λ l. inl refl;
  hears = λ k l e. absurd (let x : Free ≡ Hears l = e in cc);
  tells = λ l. tt;
}

pub each_so : (P Q : Past → Type 0) (h : History) → ((e : Past) → P e → Q e) → Each P h
    → Each Q h
each_so P Q [] f a = tt
each_so P Q (e ∷ h) f a = (f e a.0, each_so P Q h f a.1)

each_last : (P : Past → Type 0) (h : History) (e : Past) → Each P h → P e → Each P (h ++ e ∷ [])
each_last P [] e a p = (p, tt)
each_last P (x ∷ h) e a p = (a.0, each_last P h e a.1 p)

-- the laws of a core by one plan
module _ (q : Discipline) (law : Keeps q) where
  abbrev legal : History → Type 0
  legal = CameAbout q

  abbrev rule : History → ℕ → Call → Reply
  rule = answer_after q

  -- one entry more of a legal history
  module _ (h : History) (e : Past) (good : legal h) (is : e.reply ≡ rule h e.lane e.call)
      (kept : is_kept e.reply ≡ true) (t : Told h) where
    scripted : InScript rule h e.lane e.call
    scripted astray =
        let x : is_kept reply.Astray ≡ true = sym (ap is_kept (is ∙ astray)) ∙ kept in cc

    -- its line was given to nobody before
    fresh : (l : ℕ) → takes l e.reply ≡ true → takers l h ≡ []
    fresh l gives =
        let line : e.reply ≡ reply.Line l = gives_line l e.reply gives in
        let fit : fits e.call (reply.Line l) ≡ true =
        sym (ap (fits e.call) (sym is ∙ line)) ∙ law.replies h e.lane e.call scripted in
        let take : e.call ≡ call.Take = takes_only l e.call fit in
        no_takers l h (law.takes_once h e.lane l good
        (sym (ap (rule h e.lane) take) ∙ (sym is ∙ line)))

    then_by : (l : ℕ) (b : Bool) → takes l e.reply ≡ b
        → takers l (h ++ e ∷ []) ≡ takers l h ++ cond b (e.lane ∷ []) []
    then_by l b is_b =
        takers_append l h (e ∷ []) ∙ ap (λ (x : Bool). takers l h ++ cond x (e.lane ∷ []) []) is_b

    gave : (l : ℕ) → takes l e.reply ≡ true → takers l (h ++ e ∷ []) ≡ e.lane ∷ []
    gave l gives =
        then_by l true gives ∙ ap (λ (ks : List ℕ). ks ++ e.lane ∷ []) (fresh l gives)

    stays_by : (l k : ℕ) (b : Bool) → takes l e.reply ≡ b → takers l h ≡ k ∷ []
        → takers l (h ++ e ∷ []) ≡ k ∷ []
    stays_by l k true gives was = absurd (
        let x : k ∷ [] ≡ [] = sym was ∙ fresh l gives in cc
        )
    stays_by l k false gives was = then_by l false gives ∙ (append-nil (takers l h) ∙ was)

    stays : (l k : ℕ) → takers l h ≡ k ∷ [] → takers l (h ++ e ∷ []) ≡ k ∷ []
    stays l k was = stays_by l k (takes l e.reply) refl was

    once_by : (l : ℕ) (b : Bool) → takes l e.reply ≡ b
        → (takers l (h ++ e ∷ []) ≡ []) ⊎ ((k : ℕ) × (takers l (h ++ e ∷ []) ≡ k ∷ []))
    once_by l true gives = inr (e.lane, gave l gives)
    once_by l false gives = ⊎_elim
        (λ none. inl (then_by l false gives ∙ (append-nil (takers l h) ∙ none)))
        (λ one. inr (one.0, stays l one.0 one.1))
        (t.once l)

    -- what the lane that made the entry hears
    own_by : (l : ℕ) → Why (hearing_of (calls_by e.lane h)) l e.call e.reply
        → takers l (h ++ e ∷ []) ≡ e.lane ∷ []
    own_by l (inl line) = gave l (ap (takes l) line ∙ eq-eqb l l refl)
    own_by l (inr (inl tells)) =
        stays l e.lane (t.hears e.lane l (law.only_hears h e.lane e.call l tells scripted))
    own_by l (inr (inr was)) = stays l e.lane (t.hears e.lane l was)

    hears_by : (k l : ℕ) (b : Bool) → (k == e.lane) ≡ b
        → hearing_of (calls_by k h ++ cond b (e ∷ []) []) ≡ Hears l
        → takers l (h ++ e ∷ []) ≡ k ∷ []
    hears_by k l true same now =
        let lane : k ≡ e.lane = eqb-true k e.lane same in
        let here : hearing_of (calls_by e.lane h ++ e ∷ []) ≡ Hears l =
        subst (λ (n : ℕ). hearing_of (calls_by n h ++ e ∷ []) ≡ Hears l) lane now in
        let why = by_why (hearing_of (calls_by e.lane h)) l e.call e.reply
        (sym (hearing_more (calls_by e.lane h) e) ∙ here) in
        own_by l why ∙ ap (λ (n : ℕ). n ∷ []) (sym lane)
    hears_by k l false other now =
        stays l k (t.hears k l (ap hearing_of (sym (append-nil (calls_by k h))) ∙ now))

    tells_now : (l : ℕ) → tells_of l e.call ≡ true → takers l (h ++ e ∷ []) ≡ e.lane ∷ []
    tells_now l tells =
        stays l e.lane (t.hears e.lane l (law.only_hears h e.lane e.call l tells scripted))

    one_more : Told (h ++ e ∷ [])
    one_more = record {
      once = λ l. once_by l (takes l e.reply) refl;
      hears = λ k l now. hears_by k l (k == e.lane) refl
          (ap hearing_of (sym (calls-append k h (e ∷ []))) ∙ now);
      tells = λ l.
          let Was : Past → Type 0 =
          λ x. tells_of l x.call ≡ true → takers l h ≡ x.lane ∷ [] in
          let Now : Past → Type 0 =
          λ x. tells_of l x.call ≡ true → takers l (h ++ e ∷ []) ≡ x.lane ∷ [] in
          each_last Now h e
          (each_so Was Now h (λ x was tells. stays l x.lane (was tells)) (t.tells l))
          (tells_now l);
    }

  told_rev : (r : History) → legal (rev r) → Told (rev r)
  told_rev [] good = told_nothing
  told_rev (e ∷ r) good =
      let b = law.legal_before (rev r) e good in one_more (rev r) e b.0 b.1 b.2 (told_rev r b.0)

  pub told : (h : History) → legal h → Told h
  told h good =
      let r = reversed h in subst Told (sym r.1) (told_rev r.0 (subst legal r.1 good))
