-- A legal history, entry after entry.
use Rattle.std.proofs.Common.{◌≡◌, ℕ, ◌/◌, ◌%◌, ◌==◌, Bool, true, false, cond, [], ◌∷◌, ◌++◌, refl, ap, sym, subst, ◌∙◌, append-nil, eq-eqb, arith}
use Rattle.std.proofs.lemmas.Bool.{eqb-true}
use Rattle.std.proofs.lemmas.Grind.{fold-append}
use Rattle.std.proofs.Math.Nat.{div-add-mod}
use Rattle.seat_desk.specs.History.{calls_by}
use Rattle.seat_desk.proofs.Lines.{calls-append}
use Rattle.exec_journal.specs.declared.call.Call.{Call}
use Rattle.exec_journal.specs.declared.reply.Reply.{Reply}
use Rattle.exec_journal.specs.declared.reply.Reply.TheVariants as reply
use Rattle.exec_journal.specs.Entries.{is_kept}
use Rattle.core_contract.specs.Ruled.{CameAbout, answer_after}
use Rattle.core_contract.specs.Keeps.{Keeps}
use Rattle.core_contract.specs.Discipline.{Discipline}
use Rattle.core_contract.specs.Moves.{Past, History}
use Rattle.core_contract.specs.Laws.{fits, Fits, InScript}
use Rattle.core_contract.specs.Duties.{Asks, duty_then, duty_of, proxy_lane}
use Rattle.core_contract.specs.Shelf.{Fresh, tap_at, tap_then, place_at, place_then}
use Rattle.std.specs.Prelude.{None}

-- ---- one entry more

pub own_call : (lane : ℕ) (h : History) (e : Past) → (lane == e.lane) ≡ true
    → calls_by lane (h ++ e ∷ []) ≡ calls_by lane h ++ e ∷ []
own_call lane h e own =
    calls-append lane h (e ∷ [])
    ∙ ap (λ (b : Bool). calls_by lane h ++ cond b (e ∷ []) []) own

pub other_call : (lane : ℕ) (h : History) (e : Past) → (lane == e.lane) ≡ false
    → calls_by lane (h ++ e ∷ []) ≡ calls_by lane h
other_call lane h e other =
    calls-append lane h (e ∷ [])
    ∙ (ap (λ (b : Bool). calls_by lane h ++ cond b (e ∷ []) []) other
    ∙ append-nil (calls_by lane h))

pub duty_more : (own : History) (e : Past)
    → duty_of (own ++ e ∷ []) ≡ duty_then (duty_of own) e
duty_more own e = fold-append duty_then Asks own (e ∷ [])

pub place_more : (a : ℕ) (h : History) (e : Past)
    → place_at a (h ++ e ∷ []) ≡ place_then a (place_at a h) e
place_more a h e = fold-append (place_then a) Fresh h (e ∷ [])

pub tap_more : (w : ℕ) (h : History) (e : Past)
    → tap_at w (h ++ e ∷ []) ≡ tap_then w (tap_at w h) e
tap_more w h e = fold-append (tap_then w) None h (e ∷ [])

-- ---- the lanes of a berth

pub even_lane : (lane : ℕ) → (lane % 2 == 0) ≡ true → proxy_lane (lane / 2) ≡ lane
even_lane lane even =
    let whole = div-add-mod lane 2 in
    let none : lane % 2 ≡ 0 = eqb-true (lane % 2) 0 even in omega (arith, whole, none)

pub proxy_even : (w lane : ℕ) → proxy_lane w ≡ lane → (lane % 2 == 0) ≡ true
proxy_even w lane is = eq-eqb (lane % 2) 0 (omega (arith, is))

-- ---- all entries

rev : History → History
rev [] = []
rev (e ∷ h) = rev h ++ e ∷ []

rev_last : (h : History) (e : Past) → rev (h ++ e ∷ []) ≡ e ∷ rev h
unfolding rev
rev_last [] e = refl
rev_last (x ∷ h) e = ap (λ (g : History). g ++ x ∷ []) (rev_last h e)

reversed : (h : History) → (r : History) × (h ≡ rev r)
unfolding rev
reversed [] = ([], refl)
reversed (e ∷ h) =
    let r = reversed h in
    (r.0 ++ e ∷ [], ap (λ (g : History). e ∷ g) r.1 ∙ sym (rev_last r.0 e))

-- by the laws of a core for one plan
module _ (q : Discipline) (law : Keeps q) where
  abbrev legal : History → Type 0
  legal = CameAbout q

  abbrev rule : History → ℕ → Call → Reply
  rule = answer_after q

  -- the entry comes after a legal history as the rule makes it
  pub record Step (h : History) (e : Past) : Type 0 where
    pub good : legal h
    pub ruled : e.reply ≡ rule h e.lane e.call
    pub scripted : InScript rule h e.lane e.call
    pub fit : fits e.call e.reply ≡ true

  step : (h : History) (e : Past) → legal (h ++ e ∷ []) → Step h e
  step h e good =
      let b = law.legal_before h e good in
      let scripted : InScript rule h e.lane e.call = λ astray.
      let x : is_kept reply.Astray ≡ true = sym (ap is_kept (b.1 ∙ astray)) ∙ b.2 in cc in
      record {
        good = b.0;
        ruled = b.1;
        scripted = scripted;
        fit = ap (fits e.call) b.1 ∙ law.replies h e.lane e.call scripted;
      }

  -- what holds of no entries and stays so with each entry holds of a legal history
  module _ (P : History → Type 0) (none : P [])
      (more : (h : History) (e : Past) → Step h e → P h → P (h ++ e ∷ [])) where
    along_rev : (r : History) → legal (rev r) → P (rev r)
    unfolding rev
    along_rev [] good = none
    along_rev (e ∷ r) good =
        let s = step (rev r) e good in more (rev r) e s (along_rev r s.good)

    pub along : (h : History) → legal h → P h
    along h good =
        let r = reversed h in
        subst P (sym r.1) (along_rev r.0 (subst legal r.1 good))
