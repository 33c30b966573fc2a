-- Where a local branch waits for Ticks, a run never waits for itself.
use Rattle.std.proofs.Common.{◌||◌, ◌≡◌, ℕ, zero, suc, ◌+◌, ◌-◌, ◌*◌, ◌<◌, ◌/◌, ◌%◌, ◌==◌, nat_lt, Bool, true, false, ◌&&◌, not, cond, List, [], ◌∷◌, Option, Some, None, is_some, unwrap_or, ◌⊎◌, inl, inr, refl, sym, ap, subst, ◌∙◌, arith}
use Rattle.std.specs.Prelude.{slice_get, sum_by}
use Rattle.std.proofs.lemmas.Bool.{ltb-false, eq-eqb, eqb-false, eqb-true, ltb-true, lt-ltb, and_parts}
use Rattle.std.proofs.lemmas.List.Sums.{sum_by-cons}
use Rattle.run_plan.specs.declared.plan.Group.{Group}
use Rattle.run_plan.specs.declared.plan.Plan.{Plan}
use Rattle.run_plan.specs.Groups.{group_from, berth_group, berths, group_of, kind_of}
use Rattle.run_plan.specs.declared.plan.Branch.{Branch}
use Rattle.run_plan.specs.declared.plan.Branch.TheVariants.{Local, Remote}
use Rattle.run_plan.specs.declared.plan.PlanAction.{PlanAction}
use Rattle.run_plan.specs.Sound.{Sound}
use Rattle.exec_journal.specs.Entry.{Entry}
use Rattle.exec_journal.specs.declared.attempt.Attempt.{Attempt}
use Rattle.exec_journal.specs.declared.call.Call.TheVariants as call
use Rattle.exec_journal.specs.declared.reply.Reply.TheVariants as reply
use Rattle.exec_journal.specs.Attempts.{dropped}
use Rattle.exec_journal.specs.Facts.{IsOfBerth}
use Rattle.exec_journal.specs.Kept.{group_at}
use Rattle.exec_journal.specs.Lawful.{Lawful}
use Rattle.exec_journal.specs.Rules as r
use Rattle.exec_journal.specs.Seated.{group_for, group_on, line_group, line_kind}
use Rattle.exec_journal.specs.Settled.{all_settled, queued, ready, settled, uses, wanted}
use Rattle.exec_journal.specs.Words.{granted, halted, last_line, live}
use Rattle.exec_journal.proofs.Begins.{launched_begun}
use Rattle.exec_journal.proofs.Ruled.{by_bool, not_true}
use Rattle.journal_laws.proofs.Claims.{clash, false_by}
use Rattle.journal_laws.proofs.Firm as f
use Rattle.journal_laws.proofs.Ours as ours
use Rattle.journal_laws.proofs.Requests as q
use Rattle.journal_laws.proofs.Lanes as la
use Rattle.core_contract.specs.Disciplines.{LegalBy}
use Rattle.core_contract.specs.News.{question}
use Rattle.progress_laws.specs.Unwanted.{UnwantedAreAsked}
use Rattle.progress_laws.proofs.Leaving.{EndsOrWaits, OverRests, lanes_leave, none_live, over_ends, unover, unsettled_waits}
use Rattle.progress_laws.proofs.Unwanted.{idle_asked}
use Rattle.placed_rules.specs.Due as de
use Rattle.placed_rules.specs.Own as ow
use Rattle.placed_rules.specs.Placed.{delayed_discipline}
use Rattle.placed_rules.proofs.OwnLawful as dl
use Rattle.progress_laws.specs.Awaits.{Awaits, AwaitsEnd}
use Rattle.progress_laws.specs.Quiet.{AllQuiet}
use Rattle.progress_laws.specs.Rests.{AllLeft, AllRest}
use Rattle.run_values.specs.Runnable.{EachHasBerth}
use Rattle.progress_laws.proofs.Idles.{IsIdle, idle_asks, idle_on, leave_never, take_on}
use Rattle.progress_laws.proofs.Options.{none_some, some_left, some_right}
use Rattle.progress_laws.proofs.OwnBerths as ob
use Rattle.progress_laws.proofs.OwnBerths.{BerthsIdle}
use Rattle.progress_laws.proofs.Resting.{AllFree, BerthsRest, asks_idly, even, half, none_owes, one_owes}
use Rattle.progress_laws.proofs.Unsettled.{idle_branch, some_queued}

-- ---- lanes

-- a berth of some group is one of the plan's
seat_below : (n : ℕ) (gs : List Group) (w g : ℕ) → group_from n gs w ≡ Some g
    → w < sum_by (λ x. x.berths) gs
seat_below n [] w g h = absurd (cc)
seat_below n (x ∷ xs) w g h =
    let s = sum_by-cons (λ (y : Group). y.berths) x xs in
    by_bool (nat_lt w x.berths) (λ b. nat_lt w x.berths ≡ b
    → cond b (Some n) (group_from (n + 1) xs (w - x.berths)) ≡ Some g
    → w < sum_by (λ y. y.berths) (x ∷ xs))
    (λ _ low _. (let lt = ltb-true w x.berths low in omega (arith, s, lt)))
    (λ _ high m. (let le = ltb-false w x.berths high in let lt = seat_below (n + 1) xs
    (w - x.berths) g m in omega (arith, s, le, lt))) refl h

-- each line's berth is one of the plan's
within_plan : (p : Plan) (n : ℕ) (j : List Entry) → LegalBy (delayed_discipline p n) j → (l w : ℕ)
    → IsOfBerth j l w → w < berths p
unfolding ours.SeatedAt
within_plan p n j legal l w mine =
    let stands = dl.stands_so p n j legal in
    let has = f.going_ready_at p j mine.owner.1 stands.lawful
    (launched_begun j l mine.owner.0 mine.owner.1 mine.owner.2) in
    let runs : group_for p mine.owner.1 ≡ Some has.group = rw (has.place, has.runs) refl in
    let line : group_on p j l ≡ Some has.group = q.group_is p j l mine.owner.0 mine.owner.1
    mine.owner.2 ∙ runs in
    let at : berth_group p w ≡ Some has.group = sym (stands.seated l w mine) ∙ line in
    seat_below 0 p.groups w has.group at

-- no lane of theirs makes Ticks
unticked : (p : Plan) (lane : ℕ) → lane < 2 * berths p → ow.is_ticker p lane ≡ false
unticked p lane lt =
    false_by _ (λ h. (let n = eqb-true lane (2 * berths p) h in absurd (omega (arith, lt, n))))

ask_is : (p : Plan) (n : ℕ) (j : List Entry) (lane : ℕ) → lane / 2 < berths p
    → ow.delayed_rule p n j lane call.Ask ≡ ow.ask_delayed p n j (lane / 2) (group_at p (lane / 2))
    (last_line j (lane / 2))
ask_is p n j lane lt = rw (lt-ltb (lane / 2) (berths p) lt) refl

-- ---- what is next in a group, once it has waited

either : (b : Bool) (y : Attempt) (z : Option Attempt) → is_some z ≡ true
    → is_some (cond b (Some y) z) ≡ true
either true y z h = refl
either false y z h = h

local_is_next : (p : Plan) (n : ℕ) (j : List Entry) (a g : ℕ) (x : PlanAction) → x.local ≡ Some g
    → queued p j a Local x ≡ true → de.has_waited p n j a x ≡ true
    → is_some (de.delayed_in p n j g a x) ≡ true
local_is_next p n j a g x runs on waited =
    let used : uses x Local g ≡ true = rw (runs, eq-eqb g g refl) refl in
    rw (used, on, waited) refl

remote_is_next : (p : Plan) (n : ℕ) (j : List Entry) (a g : ℕ) (x : PlanAction) → x.remote ≡ Some g
    → queued p j a Remote x ≡ true → is_some (de.delayed_in p n j g a x) ≡ true
remote_is_next p n j a g x runs on =
    let used : uses x Remote g ≡ true = rw (runs, eq-eqb g g refl) refl in
    either (uses x Local g && (queued p j a Local x && de.has_waited p n j a x)) _ _
    (rw (used, on) refl)

some_next : (p : Plan) (n : ℕ) (j : List Entry) (g : ℕ) (x : PlanAction) (xs : List PlanAction)
    (m i a : ℕ) → m + i ≡ a → slice_get xs i ≡ Some x → is_some (de.delayed_in p n j g a x) ≡ true
    → is_some (de.delayed_from p n j g m xs) ≡ true
some_next p n j g x [] m i a is h on = absurd (cc)
some_next p n j g x (y ∷ ys) m zero a is h on =
    let same : y ≡ x = cc in
    let here : m ≡ a = omega (arith, is) in
    some_left (de.delayed_in p n j g m y) _ (subst (λ (z : PlanAction). is_some
    (de.delayed_in p n j g m z) ≡ true) (sym same)
    (subst (λ k1. is_some (de.delayed_in p n j g k1 x) ≡ true) (sym here) on))
some_next p n j g x (y ∷ ys) m (suc i) a is h on =
    some_right (de.delayed_in p n j g m y) _ (some_next p n j g x ys (m + 1) i a
    (omega (arith, is)) h on)

next_there : (p : Plan) (n : ℕ) (j : List Entry) (g a : ℕ) (x : PlanAction)
    → slice_get p.actions a ≡ Some x → is_some (de.delayed_in p n j g a x) ≡ true
    → is_some (de.delayed_earliest p n j g) ≡ true
unfolding de.delayed_earliest
next_there p n j g a x at on = some_next p n j g x p.actions 0 a a (omega arith) at on

-- where a local branch is queued and hasn't waited, the remote one is queued
remote_queued : (p : Plan) (n : ℕ) (j : List Entry) (a : ℕ) (x : PlanAction) → Lawful p j
    → AllQuiet p j → queued p j a Local x ≡ true → de.has_waited p n j a x ≡ false → (g : ℕ)
    × (x.remote ≡ Some g) × (queued p j a Remote x ≡ true)
unfolding queued wanted
remote_queued p n j a x legal all on waits = by x.remote refl
  where
    wish : wanted p j a Local ≡ true
    wish = (and_parts (wanted p j a Local) _ on).0

    made : ready p j x ≡ true
    made = (and_parts (ready p j x) _ (and_parts (wanted p j a Local) _ on).1).0

    open_now : settled p j a ≡ false
    open_now = not_true (settled p j a) (and_parts (not (settled p j a)) _ wish).0

    free : granted j a ≡ false
    free =
        not_true (granted j a) (and_parts (not (granted j a)) _
        (and_parts (not (settled p j a)) _ wish).1).0

    parts : (d t b : Bool) → (not d || (t || b)) ≡ false → (d ≡ true) × (b ≡ false)
    parts true false false h = (refl, refl)
    parts true true b h = absurd (cc)
    parts true false true h = absurd (cc)
    parts false t b h = absurd (cc)

    both : (de.is_dual x ≡ true) × (dropped p j a Remote ≡ false)
    both = parts (de.is_dual x) _ (dropped p j a Remote) waits

    by : (q : Option ℕ) → x.remote ≡ q → (g : ℕ) × (x.remote ≡ Some g)
        × (queued p j a Remote x ≡ true)
    by (Some g) is =
        (g, is, rw (open_now, free, both.1, made, idle_branch p j a Remote legal all free) refl)
    by None is =
        absurd (let n1 = (and_parts (is_some x.local) _ both.0).1 in none_some x.remote is n1)

-- ---- where every lane rests, and the run goes on

module _ (p : Plan) (n : ℕ) (j : List Entry) (legal : LegalBy (delayed_discipline p n) j)
    (on : r.is_over p j ≡ false) (rests : AllRest (delayed_discipline p n) (2 * berths p + 1) j)
  where
    lawful : Lawful p j
    lawful = dl.lawful p n j legal

    berths_rest : BerthsRest (delayed_discipline p n) j (berths p)
    berths_rest = record {
      lawful = lawful;
      on = on;
      rest = λ lane lt. rests lane (omega (arith, lt));
      unticked = unticked p;
      takes = λ lane lt. refl;
    }

    pub idle : (w : ℕ) → w < berths p → IsIdle p j w (kind_of p w) (group_at p w) (last_line j w)
        (de.delayed_earliest p n j (group_at p w)) (r.launches_of p j w (group_at p w)
        (de.delayed_earliest p n j (group_at p w)) (last_line j w))
    idle w lt =
        let low : 2 * w / 2 < berths p = omega (arith, lt) in
        let told : ow.ask_delayed p n j w (group_at p w) (last_line j w) ≡ reply.Idle =
        subst (λ i. ow.ask_delayed p n j i (group_at p i) (last_line j i) ≡ reply.Idle) (half w)
        (sym (ask_is p n j (2 * w) low) ∙ (asks_idly (delayed_discipline p n) j
        (berths p) berths_rest w lt).1) in
        idle_asks p j w (kind_of p w) (group_at p w) (last_line j w)
        (de.delayed_earliest p n j (group_at p w)) _ (ob.launches_never p j w (group_at p w)
        (de.delayed_earliest p n j (group_at p w)) (last_line j w)) told

    owes_or_free : ((l : ℕ) × Awaits j l) ⊎ AllFree j (berths p)
    owes_or_free =
        one_owes (delayed_discipline p n) j (berths p) berths_rest
        (λ w l lt is. subst (λ (x : Option ℕ). r.kills_broken j x ≡ None) is (idle w lt).whole)

    module _ (seated : EachHasBerth p) (free : AllFree j (berths p)) where
      berths_idle : BerthsIdle p j (de.delayed_earliest p n j)
      berths_idle = record {
        lawful = lawful;
        within = within_plan p n j legal;
        asks = λ w lt. (asks_idly (delayed_discipline p n) j (berths p) berths_rest w lt).0;
        idle = idle;
        free = free;
      }

      all_quiet : AllQuiet p j
      all_quiet = ob.all_quiet p j (de.delayed_earliest p n j) berths_idle

      -- nothing is next in the group of a branch
      none_in : (a g : ℕ) (b : Branch) (x : PlanAction) → slice_get p.actions a ≡ Some x
          → group_of x b ≡ Some g → is_some (de.delayed_in p n j g a x) ≡ true → ⊥
      none_in a g b x at runs some =
          let seat = seated a x b g at runs in
          let same : group_at p seat.berth ≡ g = ap (λ (y : Option ℕ). unwrap_or y 0) seat.is in
          let none : de.delayed_earliest p n j g ≡ None =
          subst (λ i. de.delayed_earliest p n j i ≡ None) same
          (ob.next_none p j (de.delayed_earliest p n j) berths_idle seat.berth seat.within) in
          none_some (de.delayed_earliest p n j g) none (next_there p n j g a x at some)

      -- so no branch is queued: a local one that hasn't waited has a remote one beside it
      unqueued : (a g : ℕ) (b : Branch) (x : PlanAction) → slice_get p.actions a ≡ Some x
          → group_of x b ≡ Some g → queued p j a b x ≡ true → ⊥
      unqueued a g Remote x at runs waiting =
          none_in a g Remote x at runs (remote_is_next p n j a g x runs waiting)
      unqueued a g Local x at runs waiting =
          by_bool (de.has_waited p n j a x) (λ b. de.has_waited p n j a x ≡ b → ⊥)
          (λ _ waited. none_in a g Local x at runs (local_is_next p n j a g x runs waiting waited))
          (λ _ waits. (let other = remote_queued p n j a x lawful all_quiet waiting waits in
          none_in a other.0 Remote x at other.1 (remote_is_next p n j a other.0 x other.1
          other.2))) refl

      none_free : Sound p → all_settled p j ≡ false → ⊥
      none_free sound open_yet =
          let owes = none_owes (delayed_discipline p n) j
          (2 * berths p + 1) legal lawful on below rests in
          let work = some_queued p j sound lawful all_quiet owes open_yet in
          unqueued work.0 work.3 work.2 work.1 work.4 work.5 work.6
        where
          below : (lane : ℕ) → (lane % 2 == 0) ≡ true → lane < 2 * suc (berths p)
              → lane < 2 * berths p + 1
          below lane even lt = (let is = eqb-true (lane % 2) 0 even in omega (arith, lt, is))

pub never_stuck : (p : Plan) (n : ℕ) (j : List Entry) → Sound p → EachHasBerth p
    → LegalBy (delayed_discipline p n) j → halted j ≡ false
    → AllRest (delayed_discipline p n) (2 * berths p + 1) j → (all_settled p j ≡ true)
    ⊎ ((l : ℕ) × Awaits j l)
never_stuck p n j sound seated legal unhalted rests =
    by_bool (all_settled p j) (λ b. all_settled p j ≡ b → (b ≡ true) ⊎ ((l : ℕ) × Awaits j l))
    (λ _ _. inl refl)
    (λ _ open_yet. (let on : r.is_over p j ≡ false = rw (open_yet, unhalted) refl in
    elim (owes_or_free p n j legal on rests) [
      | inl owes ↦ inr owes
      | inr free ↦ absurd (none_free p n j legal on rests seated free sound open_yet)
    ])) refl

-- ---- where all is over

-- neither the lanes of the plan's berths nor the two of the berth behind them are told Idle
tells_more : (p : Plan) (n : ℕ) (j : List Entry) → r.is_over p j ≡ true → (lane : ℕ)
    → ow.delayed_rule p n j lane (question (ow.is_ticker p) lane) ≡ reply.Idle → ⊥
tells_more p n j over lane h = by (ow.is_ticker p lane) (lane % 2 == 0) h
  where
    none : r.is_over p j ≡ false → ⊥
    none on = clash (r.is_over p j) over on

    ticks : (b some : Bool) → b ≡ true → cond b reply.Stop
        (cond some reply.Noted reply.Idle) ≡ reply.Idle → ⊥
    ticks true some m k = cc
    ticks false some m k = cc

    idly : (b : Bool) → b ≡ true → cond b (r.leave j (last_line j (lane / 2)))
        reply.Idle ≡ reply.Idle → ⊥
    idly true m k = leave_never j (last_line j (lane / 2)) k
    idly false m k = cc

    asks : (b : Bool) → cond b (ow.ask_delayed p n j (lane / 2) (group_at p (lane / 2))
        (last_line j (lane / 2))) (ow.ask_idly p j (last_line j (lane / 2))) ≡ reply.Idle → ⊥
    asks true k =
        let g = group_at p (lane / 2) in
        let last = last_line j (lane / 2) in
        none (idle_on p j (lane / 2) (kind_of p (lane / 2)) g last (de.delayed_earliest p n j g)
        (r.launches_of p j (lane / 2) g (de.delayed_earliest p n j g) last) k)
    asks false k = idly (r.is_over p j) over k

    by : (tick proxy : Bool) → ow.delayed_rule p n j lane
        (cond tick call.Tick (cond proxy call.Ask call.Take)) ≡ reply.Idle → ⊥
    by true proxy k = ticks (r.is_over p j) (de.some_waits p n j 0 p.actions) over k
    by false true k = asks (nat_lt (lane / 2) (berths p)) k
    by false false k = none (take_on p j (last_line j (lane / 2)) k)

over_rests : (p : Plan) (n : ℕ) (j : List Entry) → LegalBy (delayed_discipline p n) j
    → r.is_over p j ≡ true → AllRest (delayed_discipline p n) (2 * berths p + 1) j
    → OverRests (delayed_discipline p n) j (2 * berths p + 1)
over_rests p n j legal over rests = record {
  legal = legal;
  lawful = dl.lawful p n j legal;
  rest = rests;
  tells = λ lane lt told. tells_more p n j over lane told;
  unticked = λ lane lt odd. unticked p (2 * (lane / 2)) (below lane lt odd);
}
  where
    below : (lane : ℕ) → lane < 2 * berths p + 1 → (lane % 2 == 0) ≡ false
        → 2 * (lane / 2) < 2 * berths p
    below lane lt odd = (let not_even = eqb-false (lane % 2) 0 odd in omega (arith, lt, not_even))

pub leave : (p : Plan) (n : ℕ) (j : List Entry) → LegalBy (delayed_discipline p n) j
    → r.is_over p j ≡ true → AllRest (delayed_discipline p n) (2 * berths p + 1) j
    → AllLeft (2 * berths p + 1) j ⊎ ((l : ℕ) × AwaitsEnd j l)
leave p n j legal over rests =
    lanes_leave (delayed_discipline p n) j (2 * berths p + 1) (over_rests p n j legal over rests)

-- ---- whether all is over or not

pub ends_or_waits : (p : Plan) (n : ℕ) (j : List Entry) → Sound p → EachHasBerth p
    → LegalBy (delayed_discipline p n) j → AllRest (delayed_discipline p n) (2 * berths p + 1) j
    → EndsOrWaits (2 * berths p + 1) j
ends_or_waits p n j sound seated legal rests =
    by_bool (r.is_over p j) (λ b. r.is_over p j ≡ b → EndsOrWaits (2 * berths p + 1) j)
    (λ _ over. over_ends (2 * berths p + 1) j (leave p n j legal over rests))
    (λ _ on. (let open_yet = unover p j on in unsettled_waits p j (2 * berths p + 1) open_yet.0
    (never_stuck p n j sound seated legal open_yet.1 rests))) refl

-- ---- unwanted requests

pub unwanted_asked : (p : Plan) (n : ℕ) (j : List Entry) (w l : ℕ)
    → LegalBy (delayed_discipline p n) j → halted j ≡ false
    → AllRest (delayed_discipline p n) (2 * berths p + 1) j → last_line j w ≡ Some l
    → live j l ≡ true → UnwantedAreAsked p j l
unwanted_asked p n j w l legal unhalted rests last up =
    by_bool (r.is_over p j) (λ b. r.is_over p j ≡ b → UnwantedAreAsked p j l)
    (λ _ over. absurd (none_live (delayed_discipline p n) j (2 * berths p + 1)
    (over_rests p n j legal over rests) unhalted w l (omega (arith, below))
    (unticked p (2 * w) (omega (arith, below))) last up))
    (λ _ on. idle_asked p j w (kind_of p w) (group_at p w) l
    (de.delayed_earliest p n j (group_at p w)) (r.launches_of p j w (group_at p w)
    (de.delayed_earliest p n j (group_at p w)) (Some l))
    (subst (λ (x : Option ℕ). IsIdle p j w (kind_of p w) (group_at p w) x
    (de.delayed_earliest p n j (group_at p w)) (r.launches_of p j w (group_at p w)
    (de.delayed_earliest p n j (group_at p w)) x)) last (idle p n j legal on rests w below))
    seated.0 seated.1 up) refl
  where
    stands : dl.StandsSo p j
    stands = dl.stands_so p n j legal

    below : w < berths p
    below = within_plan p n j legal l w (la.here_own p j w l stands.lawful last)

    seated : (kind_of p w ≡ line_kind p j l) × (group_at p w ≡ line_group p j l)
    seated = ours.berth_seated p j stands.lawful stands.seated w l last
