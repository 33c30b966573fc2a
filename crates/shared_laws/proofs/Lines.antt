-- What the tables say of a berth's last line: whether it may still have a process, whether it is
-- idle, and its group.
use Rattle.std.proofs.Common.{◌≡◌, ℕ, ◌*◌, ◌<◌, ◌==◌, nat_lt, Bool, true, false, ◌&&◌, ◌||◌, not, cond, List, [], ◌∷◌, length, map, reverse, Option, Some, None, is_some, is_none, option_and_then, unwrap_or, refl, ap, ◌∙◌, arith}
use Rattle.std.specs.Prelude.{slice_get}
use Rattle.std.specs.List.{find, list_any}
use Rattle.std.proofs.lemmas.Bool.{lt-ltb}
use Rattle.list_lemmas.specs.Options.{or_else}
use Rattle.exec_journal.specs.declared.attempt.Attempt.{Attempt}
use Rattle.exec_journal.specs.Entry.{Entry}
use Rattle.exec_journal.specs.Facts.{IsOfBerth}
use Rattle.exec_journal.specs.Rules.{is_vacant}
use Rattle.exec_journal.specs.Seated.{group_on, kind_for}
use Rattle.exec_journal.specs.Settled.{bound}
use Rattle.exec_journal.specs.Words.{last_line, last_work, stopped, has_halted, started, failed, broke, has_ended, was_killed, live, pending}
use Rattle.exec_journal.proofs.Ruled.{by_bool}
use Rattle.run_plan.specs.Groups.{capacity}
use Rattle.journal_laws.proofs.Lanes as la
use Rattle.call_laws.specs.Matches.{recent, waits_yet}
use Rattle.worker_pool.specs.declared.LineRow.{LineRow}
use Rattle.worker_pool.specs.Rows.{last_of}
use Rattle.worker_pool.specs.Stands as pools
use Rattle.worker_pool.specs.Stands.{line_in, seat_in}
use Rattle.worker_pool.proofs.Answered.{last_is}
use Rattle.request_table.proofs.Lists.{find_append, reverse_front}
use Rattle.core_tables.specs.Lanes.{lane_in, order_of_work, state_by}
use Rattle.core_tables.specs.Matches.{is_waiting, match_in, matches_in, matches_of, matches_on}
use Rattle.core_state.specs.declared.state.State.{State}
use Rattle.core_state.specs.Machine.{order_at, order_on}
use Rattle.core_laws.specs.Stands.{Stands}
use Rattle.core_laws.proofs.Rowed.{berth_below}
use Rattle.placed_rules.specs.declared.pools.SharedPlan.{SharedPlan}
use Rattle.placed_rules.specs.Needs as needs
use Rattle.placed_rules.specs.Pools.{seats}
use Rattle.shared_laws.specs.Berths.{group_at, holds, is_gathering, line_at, line_holds, line_rests, rests}
use Rattle.shared_laws.proofs.GroupLines as groups
use Rattle.shared_laws.proofs.GroupLines.{HeldAt}
use Rattle.shared_laws.proofs.Held.{held_is}
use Rattle.shared_laws.proofs.LineWaits.{waiting_is}

-- ---- none of a list that is turned round passes a test

none_either : {X : Type 0} (o y : Option X)
    → is_none (or_else o y) ≡ (is_none y && is_none o)
none_either None None = refl
none_either None (Some x) = refl
none_either (Some z) None = refl
none_either (Some z) (Some x) = refl

none_found : {X Y : Type 0} (f : Y → Bool) (g : X → Y) (xs : List X)
    → is_none (find f (reverse (map g xs))) ≡ not (list_any (λ x. f (g x)) xs)
none_found f g [] = refl
none_found {X} {Y} f g (x ∷ xs) =
    ap (λ ys. is_none (find f ys)) (reverse_front (g x) (map g xs))
    ∙ ap is_none (find_append f (reverse (map g xs)) (g x ∷ []))
    ∙ none_either (find f (reverse (map g xs))) (find f (g x ∷ []))
    ∙ by_bool (f (g x)) (λ b. (is_none (cond b (Some (g x)) None)
    && is_none (find f (reverse (map g xs)))) ≡ not (b || list_any (λ y. f (g y)) xs))
    (λ _. refl) (λ _. none_found f g xs)

-- ---- a berth without a line

module _ (q : SharedPlan) (s : State) (j : List Entry) (w : ℕ)
    (st : Stands q.plan (seats q) s j) where
  last_none : last_line j w ≡ None → last_of s.pool w ≡ None
  unfolding seat_in
  last_none h = ap (λ (o : Option (Option ℕ)). unwrap_or o None) (st.pool.each_seat w)
      ∙ by (nat_lt w (seats q)) (last_line j w) h
    where
      by : (b : Bool) (o : Option ℕ) → o ≡ None
          → unwrap_or (cond b (Some o) None) None ≡ None
      by true o g = g
      by false o g = refl

  pub no_line : last_line j w ≡ None → line_at s w ≡ None
  no_line h = ap (option_and_then (λ l. slice_get s.pool.lines l)) (last_none h)

-- ---- its last line

module _ (q : SharedPlan) (s : State) (j : List Entry) (w l : ℕ)
    (st : Stands q.plan (seats q) s j) (here : last_line j w ≡ Some l) where
  pub below : w < seats q
  below = berth_below q.plan (seats q) s j w l st here

  inside : nat_lt w (seats q) ≡ true
  inside = lt-ltb w (seats q) below

  pub own : IsOfBerth j l w
  own = la.here_own q.plan j w l st.lawful here

  abbrev pub row : LineRow
  row = record {
    capacity = capacity (kind_for q.plan own.owner.1);
    started = started j l;
    broken = broke j l;
    ended = has_ended j l;
    killed = was_killed j l;
    bound = is_some (bound q.plan j l);
    pending = length (pending j l);
  }

  row_eq : slice_get s.pool.lines l ≡ Some row
  unfolding line_in
  row_eq =
      st.pool.each_line l
      ∙ ap (λ (o : Option (ℕ × Attempt)). pools.row_of q.plan o (started j l) (broke j l)
      (has_ended j l) (was_killed j l) (is_some (bound q.plan j l)) (length (pending j l)))
      own.owner.2

  pub line_eq : line_at s w ≡ Some row
  line_eq = ap (option_and_then (λ n. slice_get s.pool.lines n))
      (last_is q.plan (seats q) s.pool j st.pool w below ∙ here) ∙ row_eq

  order_eq : order_at s (2 * w) ≡ order_of_work (last_work j (2 * w))
  unfolding lane_in
  order_eq =
      let lane : nat_lt (2 * w) (2 * seats q) ≡ true = lt-ltb (2 * w) (2 * seats q)
      (let lt = below in omega arith) in
      ap order_on (st.lanes (2 * w)
      ∙ ap (λ b. cond b (Some (state_by (last_work j (2 * w)) (stopped j (2 * w))
      (has_halted j (2 * w)))) None) lane)

  pub holds_is : holds s w ≡ needs.is_held j l
  holds_is = (λ i. line_holds (order_eq i) (line_eq i)) ∙ held_is q.plan j w l st.lawful here

  -- ---- it is idle

  matches_eq : matches_of s.matches w ≡ reverse (map (match_in j) (recent j w))
  unfolding matches_in
  matches_eq = ap matches_on (st.matches w ∙ ap (λ b. cond b
      (Some (record { items = reverse (map (match_in j) (recent j w)) })) None) inside)

  none_waits : is_none (find is_waiting (matches_of s.matches w))
      ≡ not (list_any (waits_yet j) (recent j w))
  none_waits = ap (λ ms. is_none (find is_waiting ms)) matches_eq
      ∙ none_found is_waiting (match_in j) (recent j w)

  neither : (a b : Bool) → (not a && not b) ≡ not (a || b)
  neither true b = refl
  neither false b = refl

  waits_eq : (is_none (find is_waiting (matches_of s.matches w))
      && not (is_gathering (order_at s (2 * w)))) ≡ not (needs.has_match_waiting j l)
  waits_eq = (λ i. none_waits i && not (is_gathering (order_eq i)))
      ∙ neither (list_any (waits_yet j) (recent j w))
      (is_gathering (order_of_work (last_work j (2 * w))))
      ∙ ap not (waiting_is q.plan j w l st.lawful here)

  regroup : (x y : Bool) (o : Option Attempt) (z : Bool)
      → ((x && (y && not (is_some o))) && z) ≡ (x && (y && (is_none o && z)))
  regroup true true None z = refl
  regroup true true (Some t) z = refl
  regroup true false o z = refl
  regroup false y o z = refl

  pub rests_is : rests s w ≡ needs.is_idle q.plan j l
  unfolding live
  rests_is = (λ i. line_rests (line_eq i) && waits_eq i)
      ∙ regroup (started j l && (not (broke j l) && not (was_killed j l)))
      (length (pending j l) == 0) (bound q.plan j l) (not (needs.has_match_waiting j l))

  -- ---- its group

  pub group_is : group_at s w ≡ group_on q.plan j l
  group_is = groups.group_is q.plan (seats q) s j st w below (Some l) here

-- ---- a berth is vacant

pub vacant_is : (q : SharedPlan) (s : State) (j : List Entry) (w : ℕ)
    → Stands q.plan (seats q) s j → not (holds s w) ≡ is_vacant j (last_line j w)
vacant_is q s j w st = by (last_line j w) refl
  where
    either : (a b : Bool) → not (not a && not b) ≡ (a || b)
    either true b = refl
    either false true = refl
    either false false = refl

    by : (o : Option ℕ) → last_line j w ≡ o → not (holds s w) ≡ is_vacant j o
    by (Some l) here = ap not (holds_is q s j w l st here)
        ∙ either (failed j l) (has_ended j l && was_killed j l)
    by None here = ap (λ o. not (line_holds (order_at s (2 * w)) o)) (no_line q s j w st here)

-- ---- which last lines may still have a process

pub held_at : (q : SharedPlan) (s : State) (j : List Entry) → Stands q.plan (seats q) s j
    → HeldAt s j
held_at q s j st = record { held = λ w l here. holds_is q s j w l st here }
