-- Lanes that rest: what they might ask, and would be told.
use Rattle.std.proofs.Common.{◌≡◌, ℕ, ◌+◌, ◌*◌, ◌<◌, ◌/◌, ◌%◌, ◌==◌, Bool, true, false, ◌&&◌, not, cond, List, [], ◌∷◌, Option, Some, None, ◌⊎◌, inl, inr, refl, sym, ap, subst, ◌∙◌, arith}
use Rattle.std.proofs.lemmas.Bool.{eq-eqb, eqb-true, ltb-true, and_parts, or_cases, or_left, or_right}
use Rattle.run_plan.specs.declared.plan.Plan.{Plan}
use Rattle.run_plan.specs.declared.plan.Kind.TheVariants as kind
use Rattle.exec_journal.specs.Entry.{Entry}
use Rattle.exec_journal.specs.declared.call.Call.{Call}
use Rattle.exec_journal.specs.declared.call.Call.TheVariants as call
use Rattle.exec_journal.specs.declared.call.HowEnded.TheVariants as end
use Rattle.exec_journal.specs.declared.reply.Reply.TheVariants as reply
use Rattle.exec_journal.specs.Entries.{is_halt}
use Rattle.exec_journal.specs.Lawful as lw
use Rattle.exec_journal.specs.Lawful.{Lawful}
use Rattle.exec_journal.specs.Rules as r
use Rattle.exec_journal.specs.Scripts as sc
use Rattle.exec_journal.specs.Settled.{all_settled}
use Rattle.exec_journal.specs.Words.{halted, has_halted, last_line, last_work, stopped}
use Rattle.exec_journal.proofs.Ruled.{by_bool, not_true}
use Rattle.journal_laws.proofs.Claims.{clash, false_by}
use Rattle.journal_laws.proofs.Known as kn
use Rattle.journal_laws.proofs.Owed as o
use Rattle.call_laws.proofs.Owing as ow
use Rattle.discipline_laws.proofs.Fitting as fi
use Rattle.core_contract.specs.Disciplines.{LegalBy, script_of}
use Rattle.core_contract.specs.Discipline.{Discipline}
use Rattle.core_contract.specs.News.{question}
use Rattle.progress_laws.specs.Awaits.{Awaits}
use Rattle.progress_laws.specs.Quiet.{IsFree, NoneOwes}
use Rattle.progress_laws.specs.Rests.{IsResting, Left, Hears, Idles, AllRest, has_left}
use Rattle.progress_laws.proofs.Berths.{TapRests, berth_at_rest}
use Rattle.progress_laws.proofs.Options.{some_same}
use Rattle.progress_laws.proofs.Numbers.{one_or_all}

-- ---- lanes that have left

pub some_halted : (j : List Entry) (lane : ℕ) → has_halted j lane ≡ true → halted j ≡ true
unfolding has_halted halted
some_halted [] lane h = absurd (cc)
some_halted (e ∷ j) lane h = elim (or_cases ((e.lane == lane) && is_halt e.call) _ h) [
  | inl here ↦ or_left (is_halt e.call) _ (and_parts (e.lane == lane) _ here).1
  | inr before ↦ or_right (is_halt e.call) _ (some_halted j lane before)
]

-- where a lane has left, all is over
pub left_over : (p : Plan) (j : List Entry) (lane : ℕ) → Lawful p j → has_left j lane ≡ true
    → r.is_over p j ≡ true
left_over p j lane legal gone = by_bool (halted j) (λ b. halted j ≡ b → r.is_over p j ≡ true)
    (λ _ some. or_right (all_settled p j) (halted j) some)
    (λ _ none. elim (or_cases (stopped j lane) (has_halted j lane) gone) [
      | inl told ↦ or_left (all_settled p j) (halted j)
          (kn.stopped_settled p j lane legal told none)
      | inr halts ↦ absurd (clash (halted j) (some_halted j lane halts) none)
    ]) refl

-- ---- a lane that rests while the run goes on

pub hears_odd : (p : Plan) (j : List Entry) (lane l : ℕ)
    → lw.in_script p j lane (call.Ended l end.End) ≡ true → (lane % 2 == 0) ≡ false
hears_odd p j lane l may = elim (o.scripted p j lane (call.Ended l end.End) refl may) [
  | inl owes ↦ absurd (cc)
  | inr hears ↦ not_true (lane % 2 == 0) (and_parts (not (lane % 2 == 0)) _ hears).0
]

-- what a lane asks that makes no Ticks
pub question_is : (ticks : ℕ → Bool) (lane : ℕ) (proxy : Bool) → ticks lane ≡ false
    → (lane % 2 == 0) ≡ proxy → question ticks lane ≡ cond proxy call.Ask call.Take
question_is ticks lane proxy none is =
    ap (λ b. cond b call.Tick (cond (lane % 2 == 0) call.Ask call.Take)) none
    ∙ ap (λ b. cond b call.Ask call.Take) is

record IsToldIdle (q : Discipline) (j : List Entry) (lane : ℕ) : Type 0 where
  may : script_of q j lane (question q.ticks lane) ≡ true
  told : q.rule j lane (question q.ticks lane) ≡ reply.Idle

proxy_told : (q : Discipline) (j : List Entry) (lane : ℕ) → Lawful q.plan j
    → r.is_over q.plan j ≡ false → (lane % 2 == 0) ≡ true → IsResting q j lane → IsToldIdle q j lane
proxy_told q j lane legal on even (Left gone) =
    absurd (clash (r.is_over q.plan j) (left_over q.plan j lane legal gone) on)
proxy_told q j lane legal on even (Hears l may) =
    absurd (clash (lane % 2 == 0) even (hears_odd q.plan j lane l
    (fi.anywhere q j lane (call.Ended l end.End) may)))
proxy_told q j lane legal on even (Idles may told) = record { may = may; told = told }

-- a proxy lane that makes no Ticks may Ask, and would be told Idle
pub proxy_idles : (q : Discipline) (j : List Entry) (lane : ℕ) → Lawful q.plan j
    → r.is_over q.plan j ≡ false → q.ticks lane ≡ false → (lane % 2 == 0) ≡ true
    → IsResting q j lane → (lw.in_script q.plan j lane call.Ask ≡ true)
    × (q.rule j lane call.Ask ≡ reply.Idle)
proxy_idles q j lane legal on none even rests =
    let idle = proxy_told q j lane legal on even rests in
    let asks : question q.ticks lane ≡ call.Ask = question_is q.ticks lane true none even in (
      fi.anywhere q j lane call.Ask (subst (λ (c : Call). script_of q j lane c ≡ true) asks
          idle.may),
      subst (λ (c : Call). q.rule j lane c ≡ reply.Idle) asks idle.told,
    )

-- whether it makes Ticks or not, it owes no call
pub proxy_asks : (q : Discipline) (j : List Entry) (lane : ℕ) → Lawful q.plan j
    → r.is_over q.plan j ≡ false → (lane % 2 == 0) ≡ true → IsResting q j lane
    → sc.may_ask (last_work j lane) ≡ true
proxy_asks q j lane legal on even rests =
    by (q.ticks lane) (fi.anywhere q j lane (question q.ticks lane)
    (proxy_told q j lane legal on even rests).may)
  where
    none_after : (x : Option Entry) → sc.is_owed_after q.plan kind.Single call.Tick x ≡ true → ⊥
    none_after (Some e) m = cc
    none_after None m = cc

    none_allowed : (b : Bool) (x : Option Entry) → sc.allowed q.plan kind.Single b x
        call.Tick ≡ true → ⊥
    none_allowed b x m = none_after x (and_parts b _ m).1

    by : (b : Bool) → lw.in_script q.plan j lane (cond b call.Tick
        (cond (lane % 2 == 0) call.Ask call.Take)) ≡ true → sc.may_ask (last_work j lane) ≡ true
    by true h = elim (o.scripts q.plan j lane call.Tick h) [
      | o.Owes owes ↦ absurd (cc)
      | o.May allowed ↦ absurd (none_allowed (lane % 2 == 0) (last_work j lane) allowed)
      | o.Ticks is proxy ask ↦ ask
    ]
    by false h =
        (ow.asks_proxy q.plan j lane (subst (λ (b : Bool). lw.in_script q.plan j lane
        (cond b call.Ask call.Take) ≡ true) even h)).1

-- a tap lane hears a line, or would be told Idle
pub tap_rests : (q : Discipline) (j : List Entry) (lane : ℕ) → Lawful q.plan j
    → r.is_over q.plan j ≡ false → q.ticks lane ≡ false → (lane % 2 == 0) ≡ false
    → q.rule j lane call.Take ≡ r.take_reply q.plan j (last_line j (lane / 2)) → IsResting q j lane
    → TapRests q.plan j lane (last_line j (lane / 2))
tap_rests q j lane legal on none odd takes (Left gone) =
    absurd (clash (r.is_over q.plan j) (left_over q.plan j lane legal gone) on)
tap_rests q j lane legal on none odd takes (Hears l may) =
    inr (l, fi.anywhere q j lane (call.Ended l end.End) may)
tap_rests q j lane legal on none odd takes (Idles may told) =
    inl (sym takes ∙ subst (λ (c : Call). q.rule j lane c ≡ reply.Idle)
    (question_is q.ticks lane false none odd) told)

-- ---- no proxy lane owes a call

pub worked_seat : (q : Discipline) (j : List Entry) (lane : ℕ) (d : Entry) → LegalBy q j
    → last_work j lane ≡ Some d → lane < 2 * q.seats
unfolding last_work
worked_seat q [] lane d legal h = absurd (cc)
worked_seat q (e ∷ j) lane d legal h = elim (o.newest_cases e j lane d h) [
  | inl here ↦ subst (λ i. i < 2 * q.seats) here.1 (ltb-true e.lane (2 * q.seats)
      (fi.in_seats q j e.lane e.call legal.1.scripted))
  | inr before ↦ worked_seat q j lane d legal.0 before.1
]

pub none_owes : (q : Discipline) (j : List Entry) (lanes : ℕ) → LegalBy q j → Lawful q.plan j
    → r.is_over q.plan j ≡ false → ((lane : ℕ) → (lane % 2 == 0) ≡ true → lane < 2 * q.seats
    → lane < lanes) → AllRest q lanes j → NoneOwes j
none_owes q j lanes legal lawful on within rests lane d at even =
    subst (λ (x : Option Entry). sc.may_ask x ≡ true) at
    (proxy_asks q j lane lawful on even (rests lane (within lane even
    (worked_seat q j lane d legal at))))

-- ---- the two lanes of a berth

pub even : (w : ℕ) → (2 * w % 2 == 0) ≡ true
even w = eq-eqb (2 * w % 2) 0 (omega arith)

pub odd : (w : ℕ) → ((2 * w + 1) % 2 == 0) ≡ false
odd w = false_by _ (λ h. (let n = eqb-true ((2 * w + 1) % 2) 0 h in absurd (omega (arith, n))))

pub half : (w : ℕ) → 2 * w / 2 ≡ w
half w = omega arith

pub half_up : (w : ℕ) → (2 * w + 1) / 2 ≡ w
half_up w = omega arith

-- the last line of each of the first n berths is free
abbrev pub AllFree : List Entry → ℕ → Type 0
AllFree j n = (w : ℕ) → w < n → (l : ℕ) → last_line j w ≡ Some l → IsFree j l

-- the lanes of the first n berths rest, and none of them makes Ticks
pub record BerthsRest (q : Discipline) (j : List Entry) (n : ℕ) : Type 0 where
  pub lawful : Lawful q.plan j
  pub on : r.is_over q.plan j ≡ false
  pub rest : (lane : ℕ) → lane < 2 * n → IsResting q j lane
  pub unticked : (lane : ℕ) → lane < 2 * n → q.ticks lane ≡ false
  pub takes : (lane : ℕ) → lane < 2 * n → q.rule j lane call.Take ≡ r.take_reply q.plan j
      (last_line j (lane / 2))

pub asks_idly : (q : Discipline) (j : List Entry) (n : ℕ) → BerthsRest q j n → (w : ℕ) → w < n
    → (lw.in_script q.plan j (2 * w) call.Ask ≡ true) × (q.rule j (2 * w) call.Ask ≡ reply.Idle)
asks_idly q j n all w lt =
    let low : 2 * w < 2 * n = omega (arith, lt) in
    proxy_idles q j (2 * w) all.lawful all.on (all.unticked (2 * w) low) (even w)
    (all.rest (2 * w) low)

-- then a process owes something, or all are free
pub one_owes : (q : Discipline) (j : List Entry) (n : ℕ) → BerthsRest q j n
    → ((w l : ℕ) → w < n → last_line j w ≡ Some l → r.kills_broken j (Some l) ≡ None)
    → ((l : ℕ) × Awaits j l) ⊎ AllFree j n
one_owes q j n all whole =
    elim (one_or_all (λ w. (l : ℕ) × Awaits j l) (λ w. (l : ℕ) → last_line j w ≡ Some l
    → IsFree j l) n berth) [
      | inl found ↦ inl found.1
      | inr free ↦ inr free
    ]
  where
    at : (w l : ℕ) → w < n → last_line j w ≡ Some l → Awaits j l ⊎ IsFree j l
    at w l lt is =
        let high : 2 * w + 1 < 2 * n = omega (arith, lt) in
        let tap = tap_rests q j (2 * w + 1) all.lawful all.on (all.unticked (2 * w + 1) high)
        (odd w) (all.takes (2 * w + 1) high) (all.rest (2 * w + 1) high) in
        berth_at_rest q.plan j (2 * w) (2 * w + 1) l all.lawful (half w ∙ sym (half_up w))
        (ap (last_line j) (half w) ∙ is) (asks_idly q j n all w lt).0 (whole w l lt is)
        (subst (TapRests q.plan j (2 * w + 1)) (ap (last_line j) (half_up w) ∙ is) tap)

    berth : (w : ℕ) → w < n → ((l : ℕ) × Awaits j l)
        ⊎ ((l : ℕ) → last_line j w ≡ Some l → IsFree j l)
    berth w lt = by (last_line j w) refl
      where
        by : (x : Option ℕ) → last_line j w ≡ x → ((l : ℕ) × Awaits j l)
            ⊎ ((l : ℕ) → last_line j w ≡ Some l → IsFree j l)
        by None is = inr (λ l h. absurd (let n : None ≡ Some l = sym is ∙ h in cc))
        by (Some l) is = elim (at w l lt is) [
          | inl owes ↦ inl (l, owes)
          | inr free ↦ inr (λ m h. subst (IsFree j) (some_same l m (sym is ∙ h)) free)
        ]
