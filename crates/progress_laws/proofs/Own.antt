-- Where groups have berths of their own, a run never waits for itself.
use Rattle.std.proofs.Common.{◌≡◌, ℕ, zero, suc, ◌+◌, ◌*◌, ◌<◌, ◌/◌, ◌%◌, ◌==◌, Bool, true, false, ◌&&◌, cond, List, [], ◌∷◌, Option, Some, None, is_some, unwrap_or, ◌⊎◌, inl, inr, refl, sym, ap, subst, arith}
use Rattle.std.specs.Prelude.{slice_get}
use Rattle.std.proofs.lemmas.Bool.{eq-eqb}
use Rattle.run_plan.specs.declared.plan.Branch.{Branch}
use Rattle.run_plan.specs.declared.plan.Branch.TheVariants.{Local, Remote}
use Rattle.run_plan.specs.declared.plan.Plan.{Plan}
use Rattle.run_plan.specs.declared.plan.PlanAction.{PlanAction}
use Rattle.run_plan.specs.Groups.{berth_group, berths, group_of, kind_of}
use Rattle.run_plan.specs.Sound.{Sound}
use Rattle.exec_journal.specs.declared.attempt.Attempt.{Attempt}
use Rattle.exec_journal.specs.declared.call.Call.TheVariants as call
use Rattle.exec_journal.specs.declared.reply.Reply.TheVariants as reply
use Rattle.exec_journal.specs.Entry.{Entry}
use Rattle.exec_journal.specs.Facts.{IsOfBerth}
use Rattle.exec_journal.specs.Kept.{group_at}
use Rattle.exec_journal.specs.Lawful.{Lawful}
use Rattle.exec_journal.specs.Legal.{Legal}
use Rattle.exec_journal.specs.Rules as r
use Rattle.exec_journal.specs.Seated.{line_group, line_kind}
use Rattle.exec_journal.specs.Settled.{all_settled, earliest, earliest_from, queued, queued_in, uses}
use Rattle.exec_journal.specs.Words.{halted, last_line, live}
use Rattle.exec_journal.proofs.Ruled.{by_bool}
use Rattle.journal_laws.proofs.Ours as ours
use Rattle.discipline_laws.proofs.OwnDiscipline as od
use Rattle.journal_laws.proofs.Claims.{clash}
use Rattle.journal_laws.proofs.Lanes as la
use Rattle.core_contract.specs.Disciplines.{LegalBy, own_discipline}
use Rattle.progress_laws.specs.Unwanted.{UnwantedAreAsked}
use Rattle.progress_laws.proofs.Leaving.{EndsOrWaits, OverRests, lanes_leave, none_live, over_ends, unover, unsettled_waits}
use Rattle.progress_laws.proofs.Unwanted.{idle_asked}
use Rattle.progress_laws.specs.Awaits.{Awaits, AwaitsEnd}
use Rattle.progress_laws.specs.Rests.{AllLeft, AllRest}
use Rattle.run_values.specs.Runnable.{EachHasBerth}
use Rattle.progress_laws.proofs.Idles.{IsIdle, idle_asks, idle_on, take_on}
use Rattle.progress_laws.proofs.Options.{none_some, some_left, some_right}
use Rattle.progress_laws.proofs.OwnBerths.{BerthsIdle, all_quiet, launches_never, next_none}
use Rattle.progress_laws.proofs.Resting.{AllFree, BerthsRest, asks_idly, half, none_owes, one_owes}
use Rattle.progress_laws.proofs.Unsettled.{some_queued}

-- ---- what is next in a group

queued_is_next : (p : Plan) (j : List Entry) (a g : ℕ) (b : Branch) (x : PlanAction)
    → group_of x b ≡ Some g → queued p j a b x ≡ true → is_some (queued_in p j g a x) ≡ true
queued_is_next p j a g Local x runs on =
    let used : uses x Local g ≡ true = rw (runs, eq-eqb g g refl) refl in
    rw (used, on) refl
queued_is_next p j a g Remote x runs on =
    let used : uses x Remote g ≡ true = rw (runs, eq-eqb g g refl) refl in
    either (uses x Local g && queued p j a Local x) _ _ (rw (used, on) refl)
  where
    either : (b : Bool) (y : Attempt) (z : Option Attempt) → is_some z ≡ true
        → is_some (cond b (Some y) z) ≡ true
    either true y z h = refl
    either false y z h = h

some_next : (p : Plan) (j : List Entry) (g : ℕ) (b : Branch) (x : PlanAction) (xs : List PlanAction)
    (n i a : ℕ) → n + i ≡ a → slice_get xs i ≡ Some x → group_of x b ≡ Some g
    → queued p j a b x ≡ true → is_some (earliest_from p j g n xs) ≡ true
some_next p j g b x [] n i a is h runs on = absurd (cc)
some_next p j g b x (y ∷ ys) n zero a is h runs on =
    let same : y ≡ x = cc in
    let here : n ≡ a = omega (arith, is) in
    some_left (queued_in p j g n y) _ (subst (λ (z : PlanAction). is_some
    (queued_in p j g n z) ≡ true) (sym same) (subst (λ m. is_some (queued_in p j g m x) ≡ true)
    (sym here) (queued_is_next p j a g b x runs on)))
some_next p j g b x (y ∷ ys) n (suc i) a is h runs on =
    some_right (queued_in p j g n y) _ (some_next p j g b x ys (n + 1) i a
    (omega (arith, is)) h runs on)

pub next_there : (p : Plan) (j : List Entry) (g a : ℕ) (b : Branch) (x : PlanAction)
    → slice_get p.actions a ≡ Some x → group_of x b ≡ Some g → queued p j a b x ≡ true
    → is_some (earliest p j g) ≡ true
unfolding earliest
next_there p j g a b x at runs on = some_next p j g b x p.actions 0 a a (omega arith) at runs on

-- ---- where every lane rests, and the run goes on

module _ (p : Plan) (j : List Entry) (legal : LegalBy (own_discipline p) j)
    (on : r.is_over p j ≡ false) (rests : AllRest (own_discipline p) (2 * berths p) j) where
  own : Legal p j
  own = od.own_legal p j legal

  lawful : Lawful p j
  lawful = ours.lawful p j own

  berths_rest : BerthsRest (own_discipline p) j (berths p)
  berths_rest = record {
    lawful = lawful;
    on = on;
    rest = rests;
    unticked = λ lane lt. refl;
    takes = λ lane lt. refl;
  }

  pub idle : (w : ℕ) → w < berths p → IsIdle p j w (kind_of p w) (group_at p w) (last_line j w)
      (earliest p j (group_at p w)) (r.launches_of p j w (group_at p w)
      (earliest p j (group_at p w)) (last_line j w))
  idle w lt =
      let told : r.ask p j w (group_at p w) (last_line j w) ≡ reply.Idle =
      subst (λ n. r.ask p j n (unwrap_or (berth_group p n) 0) (last_line j n) ≡ reply.Idle)
      (half w) (asks_idly (own_discipline p) j (berths p) berths_rest w lt).1 in
      idle_asks p j w (kind_of p w) (group_at p w) (last_line j w) (earliest p j (group_at p w)) _
      (launches_never p j w (group_at p w) (earliest p j (group_at p w)) (last_line j w)) told

  owes_or_free : ((l : ℕ) × Awaits j l) ⊎ AllFree j (berths p)
  owes_or_free =
      one_owes (own_discipline p) j (berths p) berths_rest
      (λ w l lt is. subst (λ (x : Option ℕ). r.kills_broken j x ≡ None) is (idle w lt).whole)

  berths_idle : AllFree j (berths p) → BerthsIdle p j (earliest p j)
  berths_idle free = record {
    lawful = lawful;
    within = λ l w mine. ours.within p j l w own mine;
    asks = λ w lt. (asks_idly (own_discipline p) j (berths p) berths_rest w lt).0;
    idle = idle;
    free = free;
  }

  none_free : Sound p → EachHasBerth p → all_settled p j ≡ false → AllFree j (berths p) → ⊥
  none_free sound seated open_yet free =
      let all = berths_idle free in
      let owes = none_owes (own_discipline p) j (2 * berths p) legal lawful on
      (λ lane even lt. lt) rests in
      let work = some_queued p j sound lawful (all_quiet p j (earliest p j) all) owes open_yet in
      let seat = seated work.0 work.1 work.2 work.3 work.4 work.5 in
      let same : group_at p seat.berth ≡ work.3 = ap (λ (x : Option ℕ). unwrap_or x 0) seat.is in
      let none : earliest p j work.3 ≡ None = subst (λ n. earliest p j n ≡ None) same
      (next_none p j (earliest p j) all seat.berth seat.within) in
      none_some (earliest p j work.3) none (next_there p j work.3 work.0 work.2 work.1 work.4 work.5
      work.6)

pub never_stuck : (p : Plan) (j : List Entry) → Sound p → EachHasBerth p
    → LegalBy (own_discipline p) j → halted j ≡ false → AllRest (own_discipline p) (2 * berths p) j
    → (all_settled p j ≡ true) ⊎ ((l : ℕ) × Awaits j l)
never_stuck p j sound seated legal unhalted rests =
    by_bool (all_settled p j) (λ b. all_settled p j ≡ b → (b ≡ true) ⊎ ((l : ℕ) × Awaits j l))
    (λ _ _. inl refl)
    (λ _ open_yet. (let on : r.is_over p j ≡ false = rw (open_yet, unhalted) refl in
    elim (owes_or_free p j legal on rests) [
      | inl owes ↦ inr owes
      | inr free ↦ absurd (none_free p j legal on rests sound seated open_yet free)
    ])) refl

-- ---- where all is over

over_rests : (p : Plan) (j : List Entry) → LegalBy (own_discipline p) j → r.is_over p j ≡ true
    → AllRest (own_discipline p) (2 * berths p) j → OverRests (own_discipline p) j (2 * berths p)
over_rests p j legal over rests = record {
  legal = legal;
  lawful = ours.lawful p j (od.own_legal p j legal);
  rest = rests;
  tells = λ lane lt told. tells lane (lane % 2 == 0) told;
  unticked = λ lane lt odd. refl;
}
  where
    tells : (lane : ℕ) (proxy : Bool) → r.rule p j lane (cond proxy call.Ask call.Take) ≡ reply.Idle
        → ⊥
    tells lane true h =
        let g = unwrap_or (berth_group p (lane / 2)) 0 in
        let last = last_line j (lane / 2) in
        clash (r.is_over p j) over (idle_on p j (lane / 2) (kind_of p (lane / 2)) g last
        (earliest p j g) (r.launches p j (lane / 2) g last) h)
    tells lane false h = clash (r.is_over p j) over (take_on p j (last_line j (lane / 2)) h)

pub leave : (p : Plan) (j : List Entry) → LegalBy (own_discipline p) j → r.is_over p j ≡ true
    → AllRest (own_discipline p) (2 * berths p) j → AllLeft (2 * berths p) j
    ⊎ ((l : ℕ) × AwaitsEnd j l)
leave p j legal over rests =
    lanes_leave (own_discipline p) j (2 * berths p) (over_rests p j legal over rests)

-- ---- whether all is over or not

pub ends_or_waits : (p : Plan) (j : List Entry) → Sound p → EachHasBerth p
    → LegalBy (own_discipline p) j → AllRest (own_discipline p) (2 * berths p) j
    → EndsOrWaits (2 * berths p) j
ends_or_waits p j sound seated legal rests =
    by_bool (r.is_over p j) (λ b. r.is_over p j ≡ b → EndsOrWaits (2 * berths p) j)
    (λ _ over. over_ends (2 * berths p) j (leave p j legal over rests))
    (λ _ on. (let open_yet = unover p j on in unsettled_waits p j (2 * berths p) open_yet.0
    (never_stuck p j sound seated legal open_yet.1 rests))) refl

-- ---- unwanted requests

pub unwanted_asked : (p : Plan) (j : List Entry) (w l : ℕ) → LegalBy (own_discipline p) j
    → halted j ≡ false → AllRest (own_discipline p) (2 * berths p) j → last_line j w ≡ Some l
    → live j l ≡ true → UnwantedAreAsked p j l
unwanted_asked p j w l legal unhalted rests last up =
    by_bool (r.is_over p j) (λ b. r.is_over p j ≡ b → UnwantedAreAsked p j l)
    (λ _ over. absurd (none_live (own_discipline p) j (2 * berths p)
    (over_rests p j legal over rests) unhalted w l (omega (arith, below)) refl last up))
    (λ _ on. idle_asked p j w (kind_of p w) (group_at p w) l (earliest p j (group_at p w))
    (r.launches_of p j w (group_at p w) (earliest p j (group_at p w)) (Some l))
    (subst (λ (x : Option ℕ). IsIdle p j w (kind_of p w) (group_at p w) x
    (earliest p j (group_at p w)) (r.launches_of p j w (group_at p w)
    (earliest p j (group_at p w)) x)) last (idle p j legal on rests w below)) seated.0 seated.1
    up) refl
  where
    own_legal : Legal p j
    own_legal = od.own_legal p j legal

    launched : IsOfBerth j l w
    launched = la.here_own p j w l (ours.lawful p j own_legal) last

    below : w < berths p
    below = ours.within p j l w own_legal launched

    seated : (kind_of p w ≡ line_kind p j l) × (group_at p w ≡ line_group p j l)
    seated =
        ours.berth_seated p j (ours.lawful p j own_legal) (ours.both_ours p j own_legal).1 w l last
