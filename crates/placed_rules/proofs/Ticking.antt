-- What is told to a Tick, and that only some lanes make one.
use Rattle.std.proofs.Common.{◌≡◌, ℕ, ◌*◌, ◌/◌, nat_lt, Bool, true, false, ◌&&◌, cond, List, [], ◌∷◌, Option, Some, None, inl, inr, refl, ap, subst, arith}
use Rattle.std.specs.Prelude.{count_by}
use Rattle.std.proofs.lemmas.Bool.{and_parts, or_cases}
use Rattle.std.proofs.lemmas.List.Sums.{sum_by-cons}
use Rattle.run_plan.specs.declared.plan.Plan.{Plan}
use Rattle.exec_journal.specs.declared.call.Call.{Call}
use Rattle.exec_journal.specs.declared.call.Call.TheVariants as call
use Rattle.exec_journal.specs.declared.reply.Reply.{Reply}
use Rattle.exec_journal.specs.declared.reply.Reply.TheVariants as reply
use Rattle.exec_journal.specs.Entry.{Entry}
use Rattle.exec_journal.specs.Rules as r
use Rattle.exec_journal.specs.Lawful as lw
use Rattle.exec_journal.specs.Lawful.{Ticked}
use Rattle.exec_journal.proofs.Ruled.{by_bool}
use Rattle.journal_laws.proofs.Claims.{clash}
use Rattle.journal_laws.proofs.Ours.{no_tick}
use Rattle.core_contract.specs.Discipline.{Discipline}
use Rattle.core_contract.specs.Disciplines.{LegalBy, berth_script, script_of}
use Rattle.core_contract.specs.Laws.{fits}
use Rattle.placed_rules.specs.Due as de
use Rattle.placed_rules.specs.Due.{is_tick}
use Rattle.placed_rules.specs.Bounds.{is_noted, is_noted_tick}
use Rattle.placed_rules.specs.Placed.{ticks_with}

-- ---- the reply

pub tick_told : (p : Plan) (n : ℕ) (j : List Entry) → Ticked p j (de.tick_reply p n j)
tick_told p n j =
    by_bool (r.is_over p j)
    (λ b. Ticked p j (cond b reply.Stop
    (cond (de.some_waits p n j 0 p.actions) reply.Noted reply.Idle)))
    (λ over. lw.Ends over)
    (λ _. by_bool (de.some_waits p n j 0 p.actions)
    (λ b. Ticked p j (cond b reply.Noted reply.Idle)) (λ _. lw.Counts) (λ _. lw.Waits))

pub tick_fits : (p : Plan) (n : ℕ) (j : List Entry) → fits call.Tick (de.tick_reply p n j) ≡ true
tick_fits p n j =
    by_bool (r.is_over p j)
    (λ b. fits call.Tick (cond b reply.Stop
    (cond (de.some_waits p n j 0 p.actions) reply.Noted reply.Idle)) ≡ true) (λ _. refl)
    (λ _. by_bool (de.some_waits p n j 0 p.actions)
    (λ b. fits call.Tick (cond b reply.Noted reply.Idle) ≡ true) (λ _. refl) (λ _. refl))

pub ticked_fits : (p : Plan) (ticks : Option ℕ) (j : List Entry)
    → fits call.Tick (de.ticked p ticks j) ≡ true
ticked_fits p None j = refl
ticked_fits p (Some n) j = tick_fits p n j

-- without Ticks no lane is told to stop at one
pub stops : (p : Plan) (ticks : Option ℕ) (j : List Entry) → de.ticked p ticks j ≡ reply.Stop
    → Ticked p j reply.Stop
stops p None j is = absurd (cc)
stops p (Some n) j is = subst (λ (x : Reply). Ticked p j x) is (tick_told p n j)

-- ---- which lanes make them

-- where the rule has no Ticks, the lane makes none
abbrev pub Makes : Option ℕ → Bool → Type 0
Makes None makes = makes ≡ false
Makes (Some n) makes = Unit {0}

pub ticks_are : (ticks : Option ℕ) (served lane : ℕ) → Makes ticks (ticks_with ticks served lane)
ticks_are None served lane = refl
ticks_are (Some n) served lane = tt

never_seated : (q : Discipline) (j : List Entry) (lane : ℕ)
    → berth_script q j lane call.Tick ≡ true → ⊥
never_seated q j lane may =
    no_tick q.plan (q.kinds (lane / 2)) j lane (and_parts (nat_lt lane (2 * q.seats)) _ may).1

never_made : (q : Discipline) (j : List Entry) (lane : ℕ) → q.ticks lane ≡ false
    → script_of q j lane call.Tick ≡ true → ⊥
never_made q j lane none may = elim (or_cases (q.ticks lane && _) _ may) [
  | inl ticks ↦ clash (q.ticks lane) (and_parts (q.ticks lane) _ ticks).0 none
  | inr seat ↦ never_seated q j lane seat
]

pub made_told : (q : Discipline) (ticks : Option ℕ) (j : List Entry) (lane : ℕ)
    → Makes ticks (q.ticks lane) → script_of q j lane call.Tick ≡ true
    → Ticked q.plan j (de.ticked q.plan ticks j)
made_told q None j lane none may = absurd (never_made q j lane none may)
made_told q (Some n) j lane none may = tick_told q.plan n j

-- ---- where none does, none is noted

unticked : (q : Discipline) (j : List Entry) (lane : ℕ) (d : Call) → q.ticks lane ≡ false
    → script_of q j lane d ≡ true → is_tick d ≡ false
unticked q j lane call.Tick none may = absurd (never_made q j lane none may)
unticked q j lane _ none may = refl

abbrev bit : Bool → ℕ
bit b = cond b 1 0

pub no_ticks : (q : Discipline) → ((lane : ℕ) → q.ticks lane ≡ false) → (j : List Entry)
    → LegalBy q j → count_by is_noted_tick j ≡ 0
no_ticks q none [] legal = refl
no_ticks q none (e ∷ j) legal =
    let rest = no_ticks q none j legal.0 in
    let count = sum_by-cons (λ (d : Entry). cond (is_noted_tick d) 1 0) e j in
    let off : bit (is_noted_tick e) ≡ 0 = ap (λ b. bit (b && is_noted e.reply))
    (unticked q j e.lane e.call (none e.lane) legal.1.scripted) in
    omega (arith, rest, count, off)
