-- What the first rules choose is what they order: on any berth of which the seat tells the kind and
-- the group of the last line, whatever else is ordered there.
use Rattle.std.proofs.Common.{◌≡◌, ℕ, ◌/◌, ◌<◌, ◌==◌, nat_lt, Bool, true, false, ◌&&◌, ◌||◌, not, cond, List, length, filter, map, reverse, Option, Some, None, is_some, option_map, unwrap_or, refl, ap, sym, subst, ◌∙◌, arith}
use Rattle.std.specs.Prelude.{slice_get, option_and_then}
use Rattle.std.specs.List.{find}
use Rattle.std.proofs.lemmas.Bool.{lt-ltb, eqb-true}
use Rattle.run_plan.specs.declared.plan.Plan.{Plan}
use Rattle.run_plan.specs.Groups.{capacity, group_of, has_cancellation, is_single, is_remote}
use Rattle.list_lemmas.specs.Options.{or_else}
use Rattle.exec_journal.specs.declared.attempt.Attempt.{Attempt}
use Rattle.exec_journal.specs.declared.ends.Cause.{Cause}
use Rattle.exec_journal.specs.Entry.{Entry}
use Rattle.exec_journal.specs.declared.call.Call.TheVariants as call
use Rattle.exec_journal.specs.declared.reply.Reply.{Reply}
use Rattle.exec_journal.specs.declared.reply.Reply.TheVariants as reply
use Rattle.exec_journal.specs.declared.reply.Why.TheVariants as why
use Rattle.exec_journal.specs.Entries.{Request}
use Rattle.exec_journal.specs.Facts.{NameTheirLines, OfBerth, IsOfBerth}
use Rattle.exec_journal.specs.Lawful.{IsNextOf, in_script}
use Rattle.exec_journal.specs.Rules as r
use Rattle.exec_journal.specs.Seated.{group_on, kind_for, line_kind}
use Rattle.exec_journal.specs.Settled.{all_settled, bound, free_places}
use Rattle.exec_journal.specs.Words.{last_line, launch_of, started, broke, has_ended, was_killed, live, pending, has_cancel, has_greeted, line_cause, why_of}
use Rattle.exec_journal.proofs.Begins.{bound_is}
use Rattle.exec_journal.proofs.Lines.{last_line_own, lines_named, pending_line}
use Rattle.worker_pool.specs.declared.LineRow.{LineRow}
use Rattle.worker_pool.specs.Rows as pool
use Rattle.worker_pool.specs.Stands as pools
use Rattle.worker_pool.specs.Stands.{line_in}
use Rattle.worker_pool.proofs.Answered.{last_is, free_is}
use Rattle.request_table.specs.Rows.{line_room}
use Rattle.request_table.proofs.Sent.{next_number_is}
use Rattle.cancel_rules.specs.Marks.{cancel_of}
use Rattle.cancel_rules.proofs.Followed.{cancel_is}
use Rattle.ready_order.proofs.AllSettled.{over_is}
use Rattle.call_laws.specs.Matches.{recent, waits_yet}
use Rattle.call_laws.specs.Moments.{BranchOf}
use Rattle.core_tables.specs.declared.berth_group.BerthGroup.{BerthGroup}
use Rattle.core_tables.specs.declared.matches.Match.{Match}
use Rattle.core_tables.specs.Greetings.{greeting_in, greeting_of}
use Rattle.core_tables.specs.Last.{last_in, row_of}
use Rattle.core_tables.specs.Matches.{matches_of, matches_on, matches_in, match_in, is_waiting}
use Rattle.core_state.specs.declared.choice.Choice.{Choice}
use Rattle.core_state.specs.declared.choice.Choice.TheVariants as choice
use Rattle.core_state.specs.declared.state.State.{State}
use Rattle.core_state.specs.Choices as own_state
use Rattle.core_state.specs.Machine.{carried_reply, sent_reply}
use Rattle.table_laws.specs.Moments.{JournalFacts}
use Rattle.core_laws.specs.Stands.{SeatFits, Stands}
use Rattle.earliest_first.specs.Choices as c
use Rattle.earliest_first.proofs.Oldest.{any_same, each_map, find_oldest, map_twice, oldest_all, some_oldest}

-- ---- the first that fits, carried out

module _ (f : Choice → Reply) where
  -- of a berth with a line
  with_is : (over unw : Bool) (lv ku : Choice) (k : Option Choice) (m : Option Match)
      (cn sd : Option Choice) (more : Option Reply)
      → or_else (option_map f (or_else (r.when over lv) (or_else k (or_else (r.when unw ku)
      (or_else (option_map choice.Gather m) (or_else cn sd)))))) more
      ≡ or_else (r.when over (f lv)) (or_else (option_map f k) (or_else (r.when unw (f ku))
      (or_else (option_map (λ x. f (choice.Gather x)) m)
      (or_else (option_map f cn) (or_else (option_map f sd) more)))))
  with_is true unw lv ku k m cn sd more = refl
  with_is false unw lv ku (Some k) m cn sd more = refl
  with_is false true lv ku None m cn sd more = refl
  with_is false false lv ku None (Some m) cn sd more = refl
  with_is false false lv ku None None (Some cn) sd more = refl
  with_is false false lv ku None None None (Some sd) more = refl
  with_is false false lv ku None None None None more = refl

  without_is : (over : Bool) (lv : Choice) (m : Option Match) (more : Option Reply)
      → or_else (option_map f (or_else (r.when over lv) (option_map choice.Gather m))) more
      ≡ or_else (r.when over (f lv)) (or_else (option_map (λ x. f (choice.Gather x)) m) more)
  without_is true lv m more = refl
  without_is false lv (Some m) more = refl
  without_is false lv None more = refl

module _ (p : Plan) (seats : ℕ) (s : State) (j : List Entry) (lane : ℕ)
    (st : Stands p seats s j) (facts : JournalFacts p j) (may : in_script p j lane call.Ask ≡ true)
    (lt : lane / 2 < seats) where
  abbrev w : ℕ
  w = lane / 2

  abbrev f : Choice → Reply
  f = carried_reply s w

  names : NameTheirLines j
  names = lines_named p j st.lawful

  inside : nat_lt w seats ≡ true
  inside = lt-ltb w seats lt

  over_eq : own_state.is_over s ≡ r.is_over p j
  over_eq = ap (λ b. b || s.halted) (over_is p s.ready j st.ready st.sound)
      ∙ ap (λ b. all_settled p j || b) st.halted

  -- ---- the matches

  rows_eq : matches_of s.matches w ≡ reverse (map (match_in j) (recent j w))
  unfolding matches_in
  rows_eq = ap matches_on (st.matches w ∙ ap (λ b. cond b
      (Some (record { items = reverse (map (match_in j) (recent j w)) })) None) inside)

  gather_eq : option_map (λ x. f (choice.Gather x)) (c.waiting_at s w) ≡ r.gathers_next j w
  gather_eq =
      ap (λ xs. option_map (λ x. f (choice.Gather x)) (find is_waiting xs)) rows_eq
      ∙ ap (option_map (λ x. f (choice.Gather x)))
      (find_oldest is_waiting (waits_yet j) (match_in j) (λ m. refl) (recent j w))
      ∙ map_twice (λ x. f (choice.Gather x)) (match_in j)
      (r.oldest (filter (waits_yet j) (recent j w)))
      ∙ sym (facts.gathers lane may)

  without_eq : (more : Option Reply)
      → or_else (option_map f (c.first_without s w)) more
      ≡ or_else (r.quits p j None) (or_else (r.gathers_next j w) more)
  without_eq more =
      without_is f (own_state.is_over s) choice.Stop (c.waiting_at s w) more
      ∙ (λ i. or_else (r.when (over_eq i) reply.Stop) (or_else (gather_eq i) more))

  -- ---- where the berth has a line

  module _ (l : ℕ) (here : last_line j (lane / 2) ≡ Some l) where
    own : IsOfBerth j l w
    own = subst (λ (o : Option ℕ). OfBerth j o w) here (last_line_own w j names)

    abbrev row : LineRow
    row = record {
      capacity = capacity (kind_for p own.owner.1);
      started = started j l;
      broken = broke j l;
      ended = has_ended j l;
      killed = was_killed j l;
      bound = is_some (bound p j l);
      pending = length (pending j l);
    }

    row_eq : slice_get s.pool.lines l ≡ Some row
    unfolding line_in
    row_eq =
        st.pool.each_line l
        ∙ ap (λ (o : Option (ℕ × Attempt)). pools.row_of p o (started j l) (broke j l)
        (has_ended j l) (was_killed j l) (is_some (bound p j l)) (length (pending j l)))
        own.owner.2

    row_at_eq : own_state.row_at s l ≡ row
    row_at_eq = ap (λ o. unwrap_or o (pool.new_line 0)) row_eq

    pub vacant_is : c.is_vacant_line s (Some l) ≡ r.is_vacant j (Some l)
    vacant_is =
        ap c.is_vacant_row row_at_eq
        ∙ ap (λ b. b || (has_ended j l && was_killed j l)) (sym (facts.launched_yet lane l may here))

    last_eq : slice_get s.last w ≡ Some (row_of j (Some l))
    unfolding last_in
    last_eq = st.last w ∙ ap (λ b. cond b (Some (row_of j (last_line j w))) None) inside
        ∙ ap (λ o. Some (row_of j o)) here

    cause_eq : own_state.cause_at s w ≡ line_cause j l
    cause_eq = ap own_state.cause_on last_eq

    attempt_eq : own_state.attempt_at s w ≡ option_map (λ x. x.1) (launch_of j l)
    attempt_eq = ap own_state.attempt_on last_eq

    in_room : l < line_room p
    in_room = let below = own.below in let fit = facts.lines_fit in omega arith

    cancel_of_eq : cancel_of s.cancels l ≡ option_map (λ x. x.number)
        (r.oldest (filter (λ x. r.is_unwanted p j x && not (has_cancel j x)) (pending j l)))
    cancel_of_eq = cancel_is p s.cancels j l st.cancels in_room (facts.wanted_by_grant l)

    live_eq : pool.is_live_row row ≡ live j l
    unfolding live
    live_eq = refl

    leave_eq : f (c.leave_by l row) ≡ r.leave j (Some l)
    leave_eq = by (r.runs j l)
      where
        by : (b : Bool) → f (cond b (choice.Kill l why.Quit) choice.Stop) ≡ cond b
            (reply.Kill l why.Quit) reply.Stop
        by true = refl
        by false = refl

    kill_eq : option_map f (c.kill_by l row (own_state.cause_at s w)) ≡ r.kills_broken j (Some l)
    kill_eq = ap (λ o. option_map f (c.kill_by l row o)) cause_eq ∙ by (r.runs j l) (line_cause j l)
      where
        by : (b : Bool) (o : Option Cause) → option_map f (cond b
            (option_map (λ y. choice.Kill l (why_of y)) o) None) ≡ cond b
            (option_map (λ y. reply.Kill l (why_of y)) o) None
        by true None = refl
        by true (Some y) = refl
        by false o = refl

    greeted_eq : c.greeted_on (slice_get s.greetings w) ≡ has_greeted j l
    unfolding greeting_in
    greeted_eq = ap c.greeted_on (st.greetings w ∙ ap (λ b. cond b
        (Some (greeting_of j (last_line j w))) None) inside ∙ ap (λ o. Some (greeting_of j o)) here)

    module _ (seat : BerthGroup) (fits : SeatFits p j (lane / 2) seat) where
      kind_eq : line_kind p j l ≡ seat.kind
      kind_eq = fits.kind l here

      group_eq : group_on p j l ≡ Some seat.group
      group_eq = fits.group l here

      -- where there is no cancellation, no pending request has a Cancel
      uncancelled : is_single seat.kind ≡ true → has_cancellation p seat.group ≡ false
          → is_some (cancel_of s.cancels l) ≡ r.has_unwanted p j l
      uncancelled single none =
          ap is_some cancel_of_eq
          ∙ some_oldest (λ (x : Request). x.number)
          (λ x. r.is_unwanted p j x && not (has_cancel j x)) (pending j l)
          ∙ any_same (λ x. r.is_unwanted p j x && not (has_cancel j x)) (r.is_unwanted p j)
          (pending j l)
          (each_map (λ x. has_cancel j x ≡ false) (λ x. (r.is_unwanted p j x
          && not (has_cancel j x)) ≡ r.is_unwanted p j x)
          (λ x h. ap (λ b. r.is_unwanted p j x && not b) h ∙ and_true (r.is_unwanted p j x))
          (pending j l) (facts.no_cancel l (ap is_single kind_eq ∙ single)
          (ap (λ (o : Option ℕ). has_cancellation p (unwrap_or o 0)) group_eq ∙ none)))
        where
          and_true : (b : Bool) → (b && true) ≡ b
          and_true true = refl
          and_true false = refl

      unwanted_eq : c.unwanted_by s seat l row ≡ (r.runs j l
          && ((is_single seat.kind && not (has_cancellation p seat.group))
          && r.has_unwanted p j l))
      unwanted_eq =
          (λ i. r.runs j l && (is_single seat.kind && (not (sym fits.cancel i)
          && is_some (cancel_of s.cancels l))))
          ∙ by (r.runs j l) (is_single seat.kind) (has_cancellation p seat.group) uncancelled
        where
          by : (x y z : Bool) → (y ≡ true → z ≡ false → is_some (cancel_of s.cancels l)
              ≡ r.has_unwanted p j l) → (x && (y && (not z && is_some (cancel_of s.cancels l)))) ≡
              (x && ((y && not z) && r.has_unwanted p j l))
          by false y z h = refl
          by true false z h = refl
          by true true true h = refl
          by true true false h = h refl refl

      may_eq : c.may_cancel_by s w seat ≡ r.may_cancel_of p j seat.kind seat.group l
      may_eq = λ i. sym fits.cancel i || (is_remote seat.kind && greeted_eq i)

      cancel_eq : option_map f (c.cancel_by s w seat l row)
          ≡ r.cancels_next_of p j seat.kind seat.group (Some l)
      cancel_eq =
          (λ i. option_map f (cond (live_eq i && may_eq i) (option_map (choice.Cancel l)
          (cancel_of_eq i)) None))
          ∙ by (live j l && r.may_cancel_of p j seat.kind seat.group l)
          (r.oldest (filter (λ x. r.is_unwanted p j x && not (has_cancel j x)) (pending j l)))
          (λ x h. oldest_all (λ (y : Request). y.line ≡ l) (λ y. r.is_unwanted p j y
          && not (has_cancel j y)) (pending j l) (pending_line j l) x h)
        where
          by : (b : Bool) (o : Option Request) → ((x : Request) → o ≡ Some x → x.line ≡ l)
              → option_map f (cond b (option_map (choice.Cancel l) (option_map (λ x. x.number) o))
              None) ≡ cond b (option_map r.cancel_for o) None
          by false o h = refl
          by true None h = refl
          by true (Some x) h = ap (λ k. Some (reply.Cancel k x.number)) (sym (h x refl))

      number_eq : (t : Attempt) → BranchOf p t (group_on p j l)
          → sent_reply s l t ≡ r.send_order_of j seat.kind l t
      number_eq t g =
          ap (λ n. reply.Send l n t.action t.branch t.number)
          (next_number_is p s.requests j (group_on p j l) l t.action t.branch st.requests in_room g
          (facts.numbered w l here) ∙ ap (λ k. r.number_of j k l) kind_eq)

      free_eq : pool.free_of s.pool l ≡ free_places p j seat.kind l
      free_eq = free_is p seats s.pool j st.pool l own.owner.0 own.owner.1 own.owner.2
          ∙ ap (λ k. free_places p j k l) kind_eq

      module _ (next : Option Attempt)
          (nexts : (t : Attempt) → next ≡ Some t → IsNextOf p j seat.group t) where
        uses_is : (o : Option ℕ) (g : ℕ) → unwrap_or (option_map (λ k. k == g) o) false ≡ true
            → o ≡ Some g
        uses_is (Some k) g h = ap Some (eqb-true k g h)
        uses_is None g h = absurd (cc)

        own_branch : (t : Attempt) → next ≡ Some t → BranchOf p t (group_on p j l)
        own_branch t h =
            let n = nexts t h in
            ap (option_and_then (λ x. group_of x t.branch)) n.place
            ∙ uses_is (group_of n.action t.branch) seat.group n.group ∙ sym group_eq

        send_eq : option_map f (c.send_by s w next l row)
            ≡ r.sends_next_of p j seat.kind next (Some l)
        send_eq = ap (λ b. option_map f (cond b inner None)) live_eq ∙ by (live j l)
          where
            inner : Option Choice
            inner = cond (is_some (bound p j l)) (option_map (choice.Send l)
                (own_state.attempt_at s w)) (cond (nat_lt 0 (pool.free_of s.pool l))
                (option_map (choice.Send l) next) None)

            new : (o : Option Attempt) → next ≡ o
                → option_map f (option_map (choice.Send l) o) ≡ option_map
                (r.send_order_of j seat.kind l) o
            new None h = refl
            new (Some t) h = ap Some (number_eq t (own_branch t h))

            place : (b : Bool) → option_map f (cond b (option_map
                (choice.Send l) next) None) ≡ option_map
                (r.send_order_of j seat.kind l) (cond b next None)
            place true = new next refl
            place false = refl

            of_bound : (o : Option Attempt) → bound p j l ≡ o
                → option_map f (cond (is_some o) (option_map (choice.Send l)
                (own_state.attempt_at s w)) (cond (nat_lt 0 (pool.free_of s.pool l))
                (option_map (choice.Send l) next) None))
                ≡ option_map (r.send_order_of j seat.kind l) (or_else o (cond
                (nat_lt 0 (free_places p j seat.kind l)) next None))
            of_bound (Some t) h =
                ap (λ o. option_map f (option_map (choice.Send l) o))
                (attempt_eq ∙ ap (option_map (λ x. x.1)) (bound_is p j l t h).launched)
                ∙ ap Some (number_eq t (facts.bound_group l t h))
            of_bound None h =
                (λ i. option_map f (cond (nat_lt 0 (free_eq i))
                (option_map (choice.Send l) next) None))
                ∙ place (nat_lt 0 (free_places p j seat.kind l))

            by : (b : Bool) → option_map f (cond b inner None) ≡ cond b
                (option_map (r.send_order_of j seat.kind l) (r.next_of p j seat.kind next l)) None
            by true = of_bound (bound p j l) refl
            by false = refl

        with_eq : (more : Option Reply)
            → or_else (option_map f (c.first_with s w seat next l (own_state.row_at s l))) more
            ≡ or_else (r.quits p j (Some l)) (or_else (r.kills_broken j (Some l))
            (or_else (r.kills_unwanted_of p j seat.kind seat.group (Some l))
            (or_else (r.gathers_next j w)
            (or_else (r.cancels_next_of p j seat.kind seat.group (Some l))
            (or_else (r.sends_next_of p j seat.kind next (Some l)) more)))))
        with_eq more =
            ap (λ x. or_else (option_map f (c.first_with s w seat next l x)) more) row_at_eq
            ∙ with_is f (own_state.is_over s) (c.unwanted_by s seat l row) (c.leave_by l row)
            (choice.Kill l why.Unwanted) (c.kill_by l row (own_state.cause_at s w))
            (c.waiting_at s w) (c.cancel_by s w seat l row) (c.send_by s w next l row) more
            ∙ (λ i. or_else (r.when (over_eq i) (leave_eq i)) (or_else (kill_eq i)
            (or_else (r.when (unwanted_eq i) (reply.Kill l why.Unwanted)) (or_else (gather_eq i)
            (or_else (cancel_eq i) (or_else (send_eq i) more))))))

  -- what the first rules choose, or else more, is what they order, or else the same more
  pub first_is : (seat : BerthGroup) (next : Option Attempt) (more : Option Reply)
      → SeatFits p j (lane / 2) seat
      → ((t : Attempt) → next ≡ Some t → IsNextOf p j seat.group t)
      → unwrap_or (or_else (option_map (carried_reply s (lane / 2))
      (c.first_choice s (lane / 2) seat next)) more) reply.Idle
      ≡ r.ask_of p j (lane / 2) seat.kind seat.group (last_line j (lane / 2)) next more
  first_is seat next more fits nexts =
      ap (λ o. unwrap_or (or_else (option_map f (c.first_at s w seat next o)) more) reply.Idle)
      (last_is p seats s.pool j st.pool w lt)
      ∙ by (last_line j w) refl
    where
      by : (o : Option ℕ) → last_line j w ≡ o
          → unwrap_or (or_else (option_map f (c.first_at s w seat next o)) more) reply.Idle
          ≡ r.ask_of p j w seat.kind seat.group o next more
      by (Some l) h = ap (λ x. unwrap_or x reply.Idle) (with_eq l h seat fits next nexts more)
      by None h = ap (λ x. unwrap_or x reply.Idle) (without_eq more)
