-- What a lane leaves behind that was told to stop; and where all is over, who has left.
use Rattle.std.proofs.Common.{◌≡◌, ℕ, ◌*◌, ◌<◌, ◌/◌, ◌%◌, ◌==◌, Bool, true, false, ◌&&◌, ◌||◌, not, cond, List, [], ◌∷◌, Option, Some, None, ◌⊎◌, inl, inr, refl, sym, ap, subst, ◌∙◌, arith}
use Rattle.std.proofs.lemmas.Bool.{eqb-true, and_parts, or_cases, or_right}
use Rattle.run_plan.specs.declared.plan.Plan.{Plan}
use Rattle.exec_journal.specs.declared.attempt.Attempt.{Attempt}
use Rattle.exec_journal.specs.declared.call.Call.{Call}
use Rattle.exec_journal.specs.declared.call.Call.TheVariants as call
use Rattle.exec_journal.specs.declared.call.HowEnded.TheVariants as end
use Rattle.exec_journal.specs.declared.call.Started.{Started}
use Rattle.exec_journal.specs.declared.reply.Reply.{Reply}
use Rattle.exec_journal.specs.declared.reply.Reply.TheVariants as reply
use Rattle.exec_journal.specs.declared.reply.Why.TheVariants as why
use Rattle.exec_journal.specs.Entry.{Entry}
use Rattle.exec_journal.specs.Entries.{is_stop, kills, launch_in, starts}
use Rattle.exec_journal.specs.Lawful as lw
use Rattle.exec_journal.specs.Lawful.{Lawful}
use Rattle.exec_journal.specs.Rules as r
use Rattle.exec_journal.specs.Settled.{all_settled}
use Rattle.exec_journal.specs.Words.{halted, last_line, live, started, stopped, was_killed}
use Rattle.exec_journal.proofs.Reasons as u
use Rattle.exec_journal.proofs.Ruled.{not_true}
use Rattle.journal_laws.proofs.Claims as c
use Rattle.journal_laws.proofs.Claims.{clash, false_by}
use Rattle.journal_laws.proofs.Lanes as la
use Rattle.journal_laws.proofs.Ours as ours
use Rattle.journal_laws.proofs.Over as v
use Rattle.journal_laws.proofs.Owed as o
use Rattle.call_laws.proofs.LastLines as ll
use Rattle.discipline_laws.proofs.Fitting as fi
use Rattle.core_contract.specs.Disciplines.{LegalBy, script_of}
use Rattle.core_contract.specs.Discipline.{Discipline}
use Rattle.core_contract.specs.News.{question}
use Rattle.progress_laws.specs.Awaits.{Awaits, AwaitsEnd, IsLeftBehind, Owes}
use Rattle.progress_laws.specs.Rests.{AllLeft, AllRest, IsResting, Left, Hears, Idles, has_left}
use Rattle.progress_laws.proofs.Berths.{heard_taken, live_unkilled}
use Rattle.progress_laws.proofs.Numbers.{one_or_all}
use Rattle.progress_laws.proofs.Resting.{even, half, hears_odd, some_halted}

-- ---- a lane that was told to stop has killed its line

-- only a lane that makes Ticks has them in its script
tick_ticks : (q : Discipline) (j : List Entry) (lane : ℕ) → script_of q j lane call.Tick ≡ true
    → q.ticks lane ≡ true
tick_ticks q j lane may = elim (or_cases (q.ticks lane && _) _ may) [
  | inl ticks ↦ (and_parts (q.ticks lane) _ ticks).0
  | inr seat ↦ absurd (ours.no_tick q.plan (q.kinds (lane / 2)) j lane (and_parts _ _ seat).1)
]

take_odd : (p : Plan) (j : List Entry) (lane : ℕ) → lw.in_script p j lane call.Take ≡ true
    → (lane % 2 == 0) ≡ false
take_odd p j lane may = elim (o.scripted p j lane call.Take refl may) [
  | inl owes ↦ absurd (cc)
  | inr takes ↦ not_true (lane % 2 == 0) (and_parts (not (lane % 2 == 0)) _ takes).0
]

launched_even : (p : Plan) (j : List Entry) (lane l : ℕ) (how : Started)
    → lw.in_script p j lane (call.Launched l how) ≡ true → (lane % 2 == 0) ≡ true
launched_even p j lane l how may = elim (o.scripted p j lane (call.Launched l how) refl may) [
  | inl owes ↦ absurd (cc)
  | inr owed ↦ (and_parts (lane % 2 == 0) _ owed).0
]

killed_later : (e : Entry) (j : List Entry) (l : ℕ) → was_killed j l ≡ true
    → was_killed (e ∷ j) l ≡ true
unfolding was_killed
killed_later e j l h = or_right (kills l e.call) _ h

started_before : (e : Entry) (j : List Entry) (l : ℕ) → started (e ∷ j) l ≡ true
    → (starts l e.call ≡ true) ⊎ (started j l ≡ true)
unfolding started
started_before e j l h = or_cases (starts l e.call) _ h

-- where it leaves, the berth's last line doesn't run
left_killed : (j : List Entry) (l : ℕ) → r.leave j (Some l) ≡ reply.Stop → started j l ≡ true
    → was_killed j l ≡ true
left_killed j l gone up = by (started j l) (was_killed j l) up gone
  where
    by : (a b : Bool) → a ≡ true → cond (a && not b) (reply.Kill l why.Quit) reply.Stop ≡ reply.Stop
        → b ≡ true
    by true true h k = refl
    by true false h k = absurd (cc)
    by false b h k = absurd (cc)

module _ (q : Discipline) (e : Entry) (j : List Entry) (lane l : ℕ) (legal : LegalBy q (e ∷ j))
    (lawful : Lawful q.plan (e ∷ j)) (none : q.ticks lane ≡ false)
    (proxy : (lane % 2 == 0) ≡ true) where
  -- it is told to stop here
  stops_here : (e.lane == lane) ≡ true → is_stop e.reply ≡ true
      → last_line (e ∷ j) (lane / 2) ≡ Some l → started (e ∷ j) l ≡ true
      → was_killed (e ∷ j) l ≡ true
  stops_here here stop last up = by e.call e.reply refl refl stop (v.entry_ruled q.plan e j lawful)
    where
      same : e.lane ≡ lane
      same = eqb-true e.lane lane here

      by : (d : Call) (x : Reply) → e.call ≡ d → e.reply ≡ x → is_stop x ≡ true
          → u.Ruled q.plan j e.lane d x → was_killed (e ∷ j) l ≡ true
      by d x ed ex h (u.Stops over gone) =
          let none_new : launch_in e.reply ≡ None = rw ex refl in
          let before : last_line j (lane / 2) ≡ Some l = sym (ll.last_same e j (lane / 2) none_new)
          ∙ last in
          let gone_there : r.leave j (last_line j (lane / 2)) ≡ reply.Stop =
          subst (λ n. r.leave j (last_line j (n / 2)) ≡ reply.Stop) same gone in
          let gone_here : r.leave j (Some l) ≡ reply.Stop =
          subst (λ (y : Option ℕ). r.leave j y ≡ reply.Stop) before gone_there in
          let unstarted : starts l e.call ≡ false = rw ed refl in
          let up_before : started j l ≡ true = sym (c.started_same e j l unstarted) ∙ up in
          killed_later e j l (left_killed j l gone_here up_before)
      by d x ed ex h (u.Ticks over) =
          let may : script_of q j e.lane call.Tick ≡ true =
          subst (λ (y : Call). script_of q j e.lane y ≡ true) ed legal.1.scripted in
          absurd (clash (q.ticks lane) (subst (λ n. q.ticks n ≡ true) same
          (tick_ticks q j e.lane may)) none)
      by d x ed ex h (u.TakeStops over) =
          let may : lw.in_script q.plan j e.lane call.Take ≡ true =
          subst (λ (y : Call). lw.in_script q.plan j e.lane y ≡ true) ed lawful.1.scripted in
          absurd (clash (lane % 2 == 0) proxy (subst (λ n. (n % 2 == 0) ≡ false) same
          (take_odd q.plan j e.lane may)))
      by d x ed ex h (u.KillsBroken m y here run broken over) = absurd (cc)
      by d x ed ex h (u.Notes z n) = absurd (cc)
      by d x ed ex h _ = absurd (cc)

  -- it was told before: then it makes no call, and its berth gets no line
  silent : stopped j lane ≡ true → (e.lane % 2 == 0) ≡ true → e.lane / 2 ≡ lane / 2 → ⊥
  silent gone even same =
      let lanes : e.lane ≡ lane = la.one_proxy e.lane lane even proxy same in
      let going = not_true (stopped j e.lane) (and_parts
      (not (stopped j e.lane)) _ lawful.1.scripted).0 in
      clash (stopped j lane) gone (subst (λ n. stopped j n ≡ false) lanes going)

  same_last : stopped j lane ≡ true → last_line (e ∷ j) (lane / 2) ≡ last_line j (lane / 2)
  same_last gone = by (launch_in e.reply) refl
    where
      by : (x : Option (ℕ × Attempt)) → launch_in e.reply ≡ x
          → last_line (e ∷ j) (lane / 2) ≡ last_line j (lane / 2)
      by None is = ll.last_same e j (lane / 2) is
      by (Some y) is =
          let asks = c.launch_asks q.plan j e.lane e.call e.reply y
          (v.entry_ruled q.plan e j lawful) is in
          let even = (la.asks_even q.plan e j lawful asks).0 in
          ll.last_other e j (lane / 2) (false_by (e.lane / 2 == lane / 2)
          (λ here. silent gone even (eqb-true (e.lane / 2) (lane / 2) here)))

  same_started : stopped j lane ≡ true → last_line j (lane / 2) ≡ Some l → started (e ∷ j) l ≡ true
      → started j l ≡ true
  same_started gone last up = elim (started_before e j l up) [
    | inr before ↦ before
    | inl now ↦ (let launched = c.starts_is l e.call now in
        let may : lw.in_script q.plan j e.lane (call.Launched l launched.0) ≡ true =
        subst (λ (y : Call). lw.in_script q.plan j e.lane y ≡ true) launched.1
        lawful.1.scripted in
        let there = ll.names_last q.plan j e.lane l (call.Launched l launched.0) lawful.0 may
        refl in
        let same = la.berths_same j l (e.lane / 2) (lane / 2)
        (la.here_own q.plan j (e.lane / 2) l lawful.0 there)
        (la.here_own q.plan j (lane / 2) l lawful.0 last) in
        absurd (silent gone (launched_even q.plan j e.lane l launched.0 may) same))
  ]

pub stopped_killed : (q : Discipline) (j : List Entry) (lane l : ℕ) → LegalBy q j → Lawful q.plan j
    → q.ticks lane ≡ false → (lane % 2 == 0) ≡ true → stopped j lane ≡ true
    → last_line j (lane / 2) ≡ Some l → started j l ≡ true → was_killed j l ≡ true
unfolding stopped
stopped_killed q [] lane l legal lawful none proxy gone last up = absurd (cc)
stopped_killed q (e ∷ j) lane l legal lawful none proxy gone last up =
    elim (or_cases ((e.lane == lane) && is_stop e.reply) _ gone) [
      | inl now ↦ (let parts = and_parts (e.lane == lane) _ now in
          stops_here q e j lane l legal lawful none proxy parts.0 parts.1 last up)
      | inr before ↦ (let there : last_line j (lane / 2) ≡ Some l = sym
          (same_last q e j lane l legal lawful none proxy before) ∙ last in
          let old = same_started q e j lane l legal lawful none proxy before there up in
          killed_later e j l
          (stopped_killed q j lane l legal.0 lawful.0 none proxy before there old))
    ]

-- ---- where all is over

-- the lanes of a run that is over rest; none of those that ask is told Idle
pub record OverRests (q : Discipline) (j : List Entry) (lanes : ℕ) : Type 0 where
  pub legal : LegalBy q j
  pub lawful : Lawful q.plan j
  pub rest : AllRest q lanes j
  pub tells : (lane : ℕ) → lane < lanes → q.rule j lane (question q.ticks lane) ≡ reply.Idle → ⊥
  pub unticked : (lane : ℕ) → lane < lanes → (lane % 2 == 0) ≡ false
      → q.ticks (2 * (lane / 2)) ≡ false

-- a line that a tap lane hears: its process was killed, or its proxy lane has halted
heard_ends : (q : Discipline) (j : List Entry) (lanes : ℕ) → OverRests q j lanes → (lane l : ℕ)
    → lane < lanes → lw.in_script q.plan j lane (call.Ended l end.End) ≡ true → AwaitsEnd j l
heard_ends q j lanes all lane l lt may = record {
  given = heard_taken q.plan j lane l all.lawful may;
  unended = heard.running;
  ends = by (all.rest (2 * (lane / 2)) low);
}
  where
    heard : ll.IsHeard j l
    heard = ll.heard q.plan j lane l end.End all.lawful may

    odd : (lane % 2 == 0) ≡ false
    odd = hears_odd q.plan j lane l may

    low : 2 * (lane / 2) < lanes
    low = omega (arith, lt)

    last : last_line j (2 * (lane / 2) / 2) ≡ Some l
    last =
        ap (last_line j) (half (lane / 2)) ∙ ll.names_last q.plan j lane l
        (call.Ended l end.End) all.lawful may refl

    by : IsResting q j (2 * (lane / 2)) → (was_killed j l ≡ true) ⊎ IsLeftBehind j l
    by (Left gone) = elim (or_cases (stopped j (2 * (lane / 2))) _ gone) [
      | inl told ↦ inl (stopped_killed q j (2 * (lane / 2)) l all.legal all.lawful
          (all.unticked lane lt odd) (even (lane / 2)) told last heard.up)
      | inr halts ↦ inr (record {
        lane = 2 * (lane / 2);
        proxy = even (lane / 2);
        last =
            last;
        halts = halts;
      })
    ]
    by (Hears m hears) =
        absurd (clash (2 * (lane / 2) % 2 == 0) (even (lane / 2))
        (hears_odd q.plan j (2 * (lane / 2)) m (fi.anywhere q j (2 * (lane / 2))
        (call.Ended m end.End) hears)))
    by (Idles asks told) = absurd (all.tells (2 * (lane / 2)) low told)

-- every lane has left, or some process owes its end
pub lanes_leave : (q : Discipline) (j : List Entry) (lanes : ℕ) → OverRests q j lanes
    → AllLeft lanes j ⊎ ((l : ℕ) × AwaitsEnd j l)
lanes_leave q j lanes all =
    elim (one_or_all (λ _. (l : ℕ) × AwaitsEnd j l) (λ lane. has_left j lane ≡ true) lanes
    (λ lane lt. by lane lt (all.rest lane lt))) [
      | inl found ↦ inr found.1
      | inr left ↦ inl left
    ]
  where
    by : (lane : ℕ) → lane < lanes → IsResting q j lane → ((l : ℕ) × AwaitsEnd j l)
        ⊎ (has_left j lane ≡ true)
    by lane lt (Left gone) = inr gone
    by lane lt (Hears l may) =
        inl (
          l,
          heard_ends q j lanes all lane l lt (fi.anywhere q j lane
              (call.Ended l end.End) may),
        )
    by lane lt (Idles asks told) = absurd (all.tells lane lt told)

-- and if none has halted, no line is live of a berth whose proxy lane is one of these
pub none_live : (q : Discipline) (j : List Entry) (lanes : ℕ) → OverRests q j lanes
    → halted j ≡ false → (w l : ℕ) → 2 * w < lanes → q.ticks (2 * w) ≡ false
    → last_line j w ≡ Some l → live j l ≡ true → ⊥
none_live q j lanes all unhalted w l lt none last up = by (all.rest (2 * w) lt)
  where
    here : last_line j (2 * w / 2) ≡ Some l
    here = ap (last_line j) (half w) ∙ last

    by : IsResting q j (2 * w) → ⊥
    by (Left gone) = elim (or_cases (stopped j (2 * w)) _ gone) [
      | inl told ↦ clash (was_killed j l) (stopped_killed q j (2 * w) l all.legal all.lawful none
          (even w) told here (c.live_started j l up)) (live_unkilled j l up)
      | inr halts ↦ clash (halted j) (some_halted j (2 * w) halts) unhalted
    ]
    by (Hears m hears) =
        clash (2 * w % 2 == 0) (even w) (hears_odd q.plan j (2 * w) m
        (fi.anywhere q j (2 * w) (call.Ended m end.End) hears))
    by (Idles asks told) = all.tells (2 * w) lt told

-- ---- whether all is over or not

-- every lane has left, or some process owes something
abbrev pub EndsOrWaits : ℕ → List Entry → Type 0
EndsOrWaits lanes j = AllLeft lanes j ⊎ ((l : ℕ) × Owes j l)

pub over_ends : (lanes : ℕ) (j : List Entry) → AllLeft lanes j ⊎ ((l : ℕ) × AwaitsEnd j l)
    → EndsOrWaits lanes j
over_ends lanes j (inl left) = inl left
over_ends lanes j (inr owes) = inr (owes.0, inr owes.1)

pub unover : (p : Plan) (j : List Entry) → r.is_over p j ≡ false
    → (all_settled p j ≡ false) × (halted j ≡ false)
unover p j on = by (all_settled p j) (halted j) on
  where
    by : (a b : Bool) → (a || b) ≡ false → (a ≡ false) × (b ≡ false)
    by false b h = (refl, h)
    by true b h = absurd (cc)

pub unsettled_waits : (p : Plan) (j : List Entry) (lanes : ℕ) → all_settled p j ≡ false
    → (all_settled p j ≡ true) ⊎ ((l : ℕ) × Awaits j l) → EndsOrWaits lanes j
unsettled_waits p j lanes open_yet (inl all) = absurd (clash (all_settled p j) all open_yet)
unsettled_waits p j lanes open_yet (inr owes) = inr (owes.0, inl owes.1)
