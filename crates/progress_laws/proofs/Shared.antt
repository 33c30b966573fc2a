-- Where groups share the berths of their pools, a run never waits for itself.
use Rattle.std.proofs.Common.{◌≡◌, ℕ, ◌*◌, ◌<◌, ◌/◌, ◌%◌, ◌==◌, nat_lt, Bool, true, false, cond, List, [], ◌∷◌, Option, Some, None, ◌⊎◌, inl, inr, refl, sym, ap, subst, ◌∙◌, arith}
use Rattle.std.proofs.lemmas.Bool.{ltb-true}
use Rattle.run_plan.specs.declared.plan.Plan.{Plan}
use Rattle.exec_journal.specs.Entry.{Entry}
use Rattle.run_plan.specs.Sound.{Sound}
use Rattle.exec_journal.specs.declared.attempt.Attempt.{Attempt}
use Rattle.exec_journal.specs.declared.call.Call.TheVariants as call
use Rattle.exec_journal.specs.declared.reply.Reply.{Reply}
use Rattle.exec_journal.specs.declared.reply.Reply.TheVariants as reply
use Rattle.exec_journal.specs.Facts.{IsOfBerth}
use Rattle.exec_journal.specs.Lawful as lw
use Rattle.exec_journal.specs.Lawful.{Lawful}
use Rattle.exec_journal.specs.Rules as r
use Rattle.journal_laws.proofs.Claims.{clash}
use Rattle.discipline_laws.proofs.Fitting as fi
use Rattle.core_contract.specs.Disciplines.{LegalBy}
use Rattle.core_contract.specs.Discipline.{Discipline}
use Rattle.journal_laws.proofs.Lanes as la
use Rattle.progress_laws.specs.Unwanted.{UnwantedAreAsked}
use Rattle.progress_laws.proofs.Idles.{idle_on, take_on}
use Rattle.progress_laws.proofs.Leaving.{EndsOrWaits, OverRests, lanes_leave, none_live, over_ends, unover, unsettled_waits}
use Rattle.progress_laws.proofs.Unwanted.{idle_asked}
use Rattle.progress_laws.specs.Awaits.{AwaitsEnd}
use Rattle.progress_laws.specs.Rests.{AllLeft}
use Rattle.placed_rules.specs.Runnable.{EachHasPool}
use Rattle.progress_laws.specs.Quiet.{AllQuiet}
use Rattle.progress_laws.specs.Rests.{AllRest}
use Rattle.progress_laws.specs.Awaits.{Awaits}
use Rattle.list_lemmas.specs.Options.{or_else}
use Rattle.exec_journal.specs.Rules.{gathered}
use Rattle.exec_journal.specs.Seated.{line_group, line_kind}
use Rattle.exec_journal.specs.Settled.{all_settled, bound, earliest, free_places}
use Rattle.exec_journal.specs.Words.{halted, last_line, launch_of, live, pending}
use Rattle.exec_journal.specs.declared.reply.Why.TheVariants as why
use Rattle.exec_journal.proofs.Ruled.{by_bool}
use Rattle.journal_laws.proofs.Requests as q
use Rattle.journal_laws.proofs.Lanes as la
use Rattle.placed_rules.specs.declared.pools.SharedPlan.{SharedPlan}
use Rattle.placed_rules.specs.declared.pools.SharedPool.{SharedPool}
use Rattle.placed_rules.specs.Pools.{pool_of, seats}
use Rattle.placed_rules.specs.Needs as ne
use Rattle.placed_rules.specs.Shared as sh
use Rattle.placed_rules.specs.Placed.{shared_discipline}
use Rattle.placed_rules.specs.Shared.{shared_rule, kind_here, group_here, pool_orders, evicts, shared_launches}
use Rattle.placed_rules.proofs.PoolLawful as sl
use Rattle.progress_laws.proofs.Idles.{IsIdle, NeverIdle, map_never, if_never, when_never, idle_asks, live_unsent}
use Rattle.progress_laws.proofs.Own.{next_there}
use Rattle.progress_laws.proofs.OwnBerths.{room_there}
use Rattle.progress_laws.proofs.Unsettled.{some_queued}
use Rattle.progress_laws.proofs.Starved.{starved_some, next_starved_some}
use Rattle.progress_laws.proofs.Resting.{AllFree, BerthsRest, asks_idly, half, none_owes, one_owes}
use Rattle.progress_laws.proofs.Matches.{none_waits}
use Rattle.progress_laws.proofs.Evicting.{PoolsIdle, impossible_in, starved}

-- ---- lines

-- a line was launched by a lane of the seats
launched_seat : (z : Discipline) (p : Plan) (j : List Entry) (l m : ℕ) (t : Attempt) → LegalBy z j
    → launch_of j l ≡ Some (m, t) → m < 2 * z.seats
unfolding launch_of
launched_seat z p [] l m t legal h = absurd (cc)
launched_seat z p (e ∷ j) l m t legal h =
    by (q.launch_cases p e j l m t h) (λ y. launched_seat z p j l m t legal.0 y)
  where
    by : q.Launches p e j l m t → (launch_of j l ≡ Some (m, t) → m < 2 * z.seats) → m < 2 * z.seats
    by (q.Now is lane) ih =
        subst (λ i. i < 2 * z.seats) lane (ltb-true e.lane (2 * z.seats)
        (fi.in_seats z j e.lane e.call legal.1.scripted))
    by (q.Before at) ih = ih at

orders_never : (s : SharedPlan) (j : List Entry) (w : ℕ) (last : Option ℕ) (o : Option SharedPool)
    → NeverIdle (pool_orders s None j w last o)
orders_never s j w last None = λ y h idle. absurd (cc)
orders_never s j w last (Some pool) =
    either (evicts s None j w pool last) (shared_launches s None j pool last) (evict last)
    (if_never _ _ (map_never (sh.next_starved s None j pool) (r.launch_order j) (λ t h. cc)))
  where
    evict : (last : Option ℕ) → NeverIdle (evicts s None j w pool last)
    evict None = λ y h idle. absurd (cc)
    evict (Some l) = when_never (ne.may_evict s None j w pool l) (reply.Kill l why.Evicted) (λ h. cc)

    either : (a b : Option Reply) → NeverIdle a → NeverIdle b → NeverIdle (or_else a b)
    either (Some x) b m n = m
    either None b m n = n

-- ---- where every lane rests, and the run goes on

module _ (s : SharedPlan) (j : List Entry) (legal : LegalBy (shared_discipline s) j)
    (on : r.is_over s.plan j ≡ false) (rests : AllRest (shared_discipline s) (2 * seats s) j) where
  lawful : Lawful s.plan j
  lawful = sl.lawful s None j legal

  pub within : (l w : ℕ) → IsOfBerth j l w → w < seats s
  within l w mine =
      (let lt = launched_seat (shared_discipline s) s.plan j l mine.owner.0 mine.owner.1 legal
      mine.owner.2 in let half = mine.owner.3 in omega (arith, lt, half))

  berths_rest : BerthsRest (shared_discipline s) j (seats s)
  berths_rest = record {
    lawful = lawful;
    on = on;
    rest = rests;
    unticked = λ lane lt. refl;
    takes = λ lane lt. refl;
  }

  proxy : (w : ℕ) → w < seats s → (lw.in_script s.plan j (2 * w) call.Ask ≡ true)
      × (shared_rule s j (2 * w) call.Ask ≡ reply.Idle)
  proxy w lt = asks_idly (shared_discipline s) j (seats s) berths_rest w lt

  pub idle : (w : ℕ) → w < seats s → (last : Option ℕ) → last_line j w ≡ last
      → IsIdle s.plan j w (kind_here s.plan j last) (group_here s.plan j last) last
      (earliest s.plan j (group_here s.plan j last)) (pool_orders s None j w last (pool_of s w))
  idle w lt last is =
      let told : sh.ask_shared s None j w (last_line j w) ≡ reply.Idle =
      subst (λ i. sh.ask_shared s None j i (last_line j i) ≡ reply.Idle) (half w) (proxy w lt).1 in
      idle_asks s.plan j w (kind_here s.plan j last) (group_here s.plan j last) last
      (earliest s.plan j (group_here s.plan j last)) (pool_orders s None j w last (pool_of s w))
      (orders_never s j w last (pool_of s w)) (subst
      (λ (x : Option ℕ). sh.ask_shared s None j w x ≡ reply.Idle) is told)

  owes_or_free : ((l : ℕ) × Awaits j l) ⊎ AllFree j (seats s)
  owes_or_free =
      one_owes (shared_discipline s) j (seats s) berths_rest
      (λ w l lt is. (idle w lt (Some l) is).whole)

  module _ (free : AllFree j (seats s)) where
    unbound : (w : ℕ) → w < seats s → (l : ℕ) → last_line j w ≡ Some l → live j l ≡ true
        → (bound s.plan j l ≡ None) × (nat_lt 0 (free_places s.plan j
        (line_kind s.plan j l) l) ≡ true → earliest s.plan j (line_group s.plan j l) ≡ None)
    unbound w lt l is up =
        live_unsent s.plan j (line_kind s.plan j l) (earliest s.plan j (line_group s.plan j l)) l
        (idle w lt (Some l) is).unsent up

    all_quiet : AllQuiet s.plan j
    all_quiet l w mine =
        let lt = within l w mine in
        record {
          lane = 2 * w;
          same = half w;
          is = record {
            may = (proxy w lt).0;
            ungathered =
                ap (r.gathers_next j) (half w) ∙ (idle w lt (last_line j w) refl).ungathered;
            free = λ m h. free w lt m (sym (ap (last_line j) (half w)) ∙ h);
            unbound = λ m h up. (unbound w lt m (sym (ap (last_line j) (half w)) ∙ h) up).0;
          };
        }

    -- a live line's group has nothing next
    live_none : (w : ℕ) → w < seats s → (l : ℕ) → last_line j w ≡ Some l → live j l ≡ true
        → pending j l ≡ [] → earliest s.plan j (line_group s.plan j l) ≡ None
    live_none w lt l is up none =
        (let u = unbound w lt l is up in u.1 (room_there s.plan j
        (line_kind s.plan j l) l none u.0))

    -- and it may go
    may_go : (w : ℕ) → w < seats s → (l : ℕ) → last_line j w ≡ Some l → live j l ≡ true
        → pending j l ≡ [] → ne.may_go s None j l ≡ true
    may_go w lt l is up none =
        let u = unbound w lt l is up in
        rw (up, none, u.0, none_waits s.plan j lawful all_quiet l, live_none w lt l is up none) refl

    pools_idle : PoolsIdle s j
    pools_idle = record {
      lawful = lawful;
      within = within;
      free = free;
      lines = λ w lt l is up none. record {
        idle = may_go w lt l is up none;
        none_next = live_none w lt l is up none;
      };
      unordered = λ w lt last is. (idle w lt last is).no_more;
    }

    none_free : Sound s.plan → EachHasPool s → all_settled s.plan j ≡ false → ⊥
    none_free sound seated open_yet =
        let owes = none_owes (shared_discipline s) j (2 * seats s) legal lawful on
        (λ lane even lt. lt) rests in
        let work = some_queued s.plan j sound lawful all_quiet owes open_yet in
        let seat = seated work.0 work.1 work.2 work.3 work.4 work.5 in
        let next = next_there s.plan j work.3 work.0 work.2 work.1 work.4 work.5 work.6 in
        let hungry = starved s j pools_idle work.3 next seat.pool seat.room in
        let waiting = next_starved_some s j seat.pool work.0 work.1 work.4
        (starved_some s j seat.pool work.3 work.0 work.2 work.1 seat.member hungry work.5
        work.6) in
        impossible_in s j pools_idle work.3 next seat.pool seat.room seat.member waiting seat.berth
        seat.within
        seat.is

pub never_stuck : (s : SharedPlan) (j : List Entry) → Sound s.plan → EachHasPool s
    → LegalBy (shared_discipline s) j → halted j ≡ false
    → AllRest (shared_discipline s) (2 * seats s) j → (all_settled s.plan j ≡ true)
    ⊎ ((l : ℕ) × Awaits j l)
never_stuck s j sound seated legal unhalted rests =
    by_bool (all_settled s.plan j) (λ b. all_settled s.plan j ≡ b → (b ≡ true)
    ⊎ ((l : ℕ) × Awaits j l))
    (λ _ _. inl refl)
    (λ _ open_yet. (let on : r.is_over s.plan j ≡ false = rw (open_yet, unhalted) refl in
    elim (owes_or_free s j legal on rests) [
      | inl owes ↦ inr owes
      | inr free ↦ absurd (none_free s j legal on rests free sound seated open_yet)
    ])) refl

-- ---- where all is over

over_rests : (s : SharedPlan) (j : List Entry) → LegalBy (shared_discipline s) j
    → r.is_over s.plan j ≡ true → AllRest (shared_discipline s) (2 * seats s) j
    → OverRests (shared_discipline s) j (2 * seats s)
over_rests s j legal over rests = record {
  legal = legal;
  lawful = sl.lawful s None j legal;
  rest = rests;
  tells = λ lane lt told. tells lane (lane % 2 == 0) told;
  unticked = λ lane lt odd. refl;
}
  where
    tells : (lane : ℕ) (proxy : Bool) → shared_rule s j lane
        (cond proxy call.Ask call.Take) ≡ reply.Idle → ⊥
    tells lane true h =
        let last = last_line j (lane / 2) in
        clash (r.is_over s.plan j) over (idle_on s.plan j (lane / 2) (kind_here s.plan j last)
        (group_here s.plan j last) last (earliest s.plan j (group_here s.plan j last))
        (pool_orders s None j (lane / 2) last (pool_of s (lane / 2))) h)
    tells lane false h =
        clash (r.is_over s.plan j) over (take_on s.plan j (last_line j (lane / 2)) h)

pub leave : (s : SharedPlan) (j : List Entry) → LegalBy (shared_discipline s) j
    → r.is_over s.plan j ≡ true → AllRest (shared_discipline s) (2 * seats s) j
    → AllLeft (2 * seats s) j ⊎ ((l : ℕ) × AwaitsEnd j l)
leave s j legal over rests =
    lanes_leave (shared_discipline s) j (2 * seats s) (over_rests s j legal over rests)

-- ---- whether all is over or not

pub ends_or_waits : (s : SharedPlan) (j : List Entry) → Sound s.plan → EachHasPool s
    → LegalBy (shared_discipline s) j → AllRest (shared_discipline s) (2 * seats s) j
    → EndsOrWaits (2 * seats s) j
ends_or_waits s j sound seated legal rests =
    by_bool (r.is_over s.plan j) (λ b. r.is_over s.plan j ≡ b → EndsOrWaits (2 * seats s) j)
    (λ _ over. over_ends (2 * seats s) j (leave s j legal over rests))
    (λ _ on. (let open_yet = unover s.plan j on in unsettled_waits s.plan j (2 * seats s) open_yet.0
    (never_stuck s j sound seated legal open_yet.1 rests))) refl

-- ---- unwanted requests

pub unwanted_asked : (s : SharedPlan) (j : List Entry) (w l : ℕ) → LegalBy (shared_discipline s) j
    → halted j ≡ false → AllRest (shared_discipline s) (2 * seats s) j → last_line j w ≡ Some l
    → live j l ≡ true → UnwantedAreAsked s.plan j l
unwanted_asked s j w l legal unhalted rests last up =
    by_bool (r.is_over s.plan j) (λ b. r.is_over s.plan j ≡ b → UnwantedAreAsked s.plan j l)
    (λ _ over. absurd (none_live (shared_discipline s) j (2 * seats s)
    (over_rests s j legal over rests) unhalted w l (omega (arith, below)) refl last up))
    (λ _ on. idle_asked s.plan j w (kind_here s.plan j (Some l)) (group_here s.plan j (Some l)) l
    (earliest s.plan j (group_here s.plan j (Some l)))
    (pool_orders s None j w (Some l) (pool_of s w)) (idle s j legal on rests w below (Some l) last)
    refl refl up) refl
  where
    launched : IsOfBerth j l w
    launched = la.here_own s.plan j w l (sl.lawful s None j legal) last

    below : w < seats s
    below =
        (let lt = launched_seat (shared_discipline s) s.plan j l launched.owner.0 launched.owner.1
        legal launched.owner.2 in let half = launched.owner.3 in omega (arith, lt, half))
