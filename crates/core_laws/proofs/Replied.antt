-- What an Answer makes of a state that stands for a journal, whatever it finds; and the replies to
-- Answer and to Take.
use Rattle.std.proofs.Common.{◌≡◌, ℕ, ◌/◌, ◌<◌, ◌≤◌, nat_lt, Bool, true, false, ◌&&◌, ◌||◌, not, cond, List, [], ◌∷◌, length, Option, Some, None, is_some, option_map, unwrap_or, ℤ, pos, negsuc, refl, ap, sym, subst, ◌∙◌, arith}
use Rattle.std.specs.Prelude.{slice_get, option_and_then, int_le}
use Rattle.std.specs.List.{find}
use Rattle.std.specs.Ordering.{int_eq}
use Rattle.std.proofs.lemmas.Bool.{eqb-true, lt-ltb}
use Rattle.std.proofs.lemmas.Option.{slice_get_within}
use Rattle.run_plan.specs.declared.plan.Plan.{Plan}
use Rattle.run_plan.specs.declared.plan.PlanAction.{PlanAction}
use Rattle.exec_journal.specs.declared.attempt.Attempt.{Attempt}
use Rattle.exec_journal.specs.Entry.{Entry}
use Rattle.exec_journal.specs.declared.call.Answer.{Answer}
use Rattle.exec_journal.specs.declared.call.Call.TheVariants as call
use Rattle.exec_journal.specs.declared.call.Found.{Found}
use Rattle.exec_journal.specs.declared.reply.BreachWhy.TheVariants as breach
use Rattle.exec_journal.specs.declared.reply.Reply.{Reply}
use Rattle.exec_journal.specs.declared.reply.Reply.TheVariants as reply
use Rattle.exec_journal.specs.declared.reply.StrayWhy.{StrayWhy}
use Rattle.exec_journal.specs.declared.reply.StrayWhy.TheVariants as stray
use Rattle.exec_journal.specs.Entries.{Request, consumed_in, matched_in}
use Rattle.exec_journal.specs.Rules as r
use Rattle.exec_journal.specs.Rules.{gathered}
use Rattle.run_plan.specs.Groups.{is_single, is_remote, group_of}
use Rattle.exec_journal.specs.Settled.{bound, all_settled}
use Rattle.exec_journal.specs.Words.{last_line, broke, started, has_ended, has_spoken, was_killed, was_taken, sends, pending, is_pending, has_cancel, wrote, granted, grant_of}
use Rattle.exec_journal.proofs.Ruled.{by_bool}
use Rattle.worker_pool.specs.Rows as rows
use Rattle.worker_pool.specs.Stands as pools
use Rattle.worker_pool.specs.Stands.{line_in}
use Rattle.worker_pool.specs.declared.LineRow.{LineRow}
use Rattle.worker_pool.proofs.Answered.{last_is}
use Rattle.request_table.specs.declared.Matching.{Matching}
use Rattle.request_table.specs.declared.Matching.TheVariants as found
use Rattle.request_table.specs.Entries.{EachOf, finds_none}
use Rattle.request_table.specs.Rows.{line_room, matching_of}
use Rattle.request_table.specs.Stands.{Numbered, open_request, of_sent, of_pending}
use Rattle.request_table.proofs.Answered.{multi_answer, single_answer}
use Rattle.request_table.proofs.Kept.{nothing_found, taken_back}
use Rattle.request_table.proofs.Lists.{int_eq_pos}
use Rattle.race_core.proofs.Kept.{winner_is}
use Rattle.core_tables.specs.declared.berth_group.BerthGroup.{BerthGroup}
use Rattle.core_state.specs.declared.state.State.{State}
use Rattle.core_state.specs.Choices.{row_at, is_over}
use Rattle.table_laws.specs.Moments.{JournalFacts, ConsumesOne, SentInGroup}
use Rattle.call_laws.specs.Moments.{BranchOf}
use Rattle.core_tables.specs.Greetings.{greeting_in, greeting_of}
use Rattle.core_tables.specs.Last.{last_in, row_of}
use Rattle.core_state.specs.Machine.{takeable, takes_line, take_reply, taken_on}
use Rattle.core_state.specs.Noted.{noted_after}
use Rattle.core_state.specs.Reports.{attempt_in, breached, heard, reopened, heard_late, heard_match, unmatched_reply, consumed_with, consumed_reply, matching_with, matching_reply, is_wrong, is_won, is_greeting_by, spoken_on, told_reply, told_with, answered_with, answer_reply_by}
use Rattle.core_laws.specs.Stands.{Stands, MayCall, SeatFits}
use Rattle.core_laws.proofs.Asked.{each_with, attempt_is, pending_grouped}
use Rattle.core_laws.proofs.Breached.{breach_stands}
use Rattle.core_laws.proofs.Heard.{late_stands, match_stands}
use Rattle.core_laws.proofs.Orders.{quiet_stands}
use Rattle.ready_order.proofs.AllSettled.{over_is}
use Rattle.core_laws.proofs.Own.{IsQuiet, SpendsNone}
use Rattle.core_laws.proofs.Rowed.{berth_of}
use Rattle.core_laws.proofs.Greeted.{answer_greetings}
use Rattle.exec_journal.specs.Lawful.{plain_reply}
use Rattle.exec_journal.specs.Seated.{group_on, line_kind}

-- ---- the row of a line

module _ (p : Plan) (seats : ℕ) (s : State) (j : List Entry) (w l : ℕ) (st : Stands p seats s j)
    (here : last_line j w ≡ Some l) where
  abbrev row : ℕ → LineRow
  row c = record {
    capacity = c;
    started = started j l;
    broken = broke j l;
    ended = has_ended j l;
    killed = was_killed j l;
    bound = is_some (bound p j l);
    pending = length (pending j l);
  }

  row_is : (c : ℕ) × (row_at s l ≡ row c)
  unfolding line_in
  row_is =
      let own = berth_of p seats s j w l st here in (
        _,
        ap (λ (o : Option LineRow). unwrap_or o (rows.new_line 0))
            (st.pool.each_line l ∙ ap (λ (o : Option (ℕ × Attempt)). pools.row_of p o (started j l)
            (broke j l) (has_ended j l) (was_killed j l) (is_some (bound p j l))
            (length (pending j l))) own.owner.2),
      )

  pub broken_is : (row_at s l).broken ≡ broke j l
  broken_is = ap (λ (x : LineRow). x.broken) row_is.1

  pub started_is : (row_at s l).started ≡ started j l
  started_is = ap (λ (x : LineRow). x.started) row_is.1

-- ---- Answer: the state

module _ (p : Plan) (seats : ℕ) (s : State) (j : List Entry) (lane l : ℕ) (seat : BerthGroup) (x : Answer)
    (st : Stands p seats s j) (may : MayCall p seats j lane (call.Answer l x))
    (here : last_line j (lane / 2) ≡ Some l) (one : ConsumesOne p j lane l x) where
  abbrev w : ℕ
  w = lane / 2

  abbrev entry : Reply → Entry
  entry y = record { lane = lane; call = call.Answer l x; reply = y }

  Keeps : State → Reply → Type 0
  Keeps t y = Stands p seats (noted_after t lane (call.Answer l x) y) (entry y ∷ j)

  -- a state with another table of requests
  module _ (none : finds_none (matching_of s.requests l x.number) ≡ true) where
    heard_stands : Stands p seats (heard s l x.number) j
    heard_stands = record {
      plan = st.plan;
      sound = st.sound;
      lawful = st.lawful;
      seated = st.seated;
      few = st.few;
      pool = st.pool;
      requests = nothing_found p s.requests j l x.number st.requests none;
      cancels = st.cancels;
      ready = st.ready;
      race = st.race;
      attempts = st.attempts;
      lanes = st.lanes;
      greetings = st.greetings;
      last = st.last;
      matches = st.matches;
      halted = st.halted;
    }

    quiet : (y : StrayWhy) → IsQuiet seats j (entry (reply.Stray y))
    unfolding wrote
    quiet y = record {
      no_launch = refl;
      no_send = refl;
      no_take = λ m. refl;
      no_break = λ m. refl;
      no_feed = λ t. refl;
    }

    spends : (y : StrayWhy) → SpendsNone seats j (entry (reply.Stray y))
    unfolding wrote granted grant_of gathered
    spends y = record { no_send = refl; no_match = refl; same = λ t. refl }

    unmatched_keeps : (y : StrayWhy) (b : Bool) → cond b (reply.Breach breach.Unasked)
        (reply.Stray y) ≡ plain_reply p j lane (call.Answer l x)
        → Keeps (cond b (breached (heard s l x.number) w l) (heard s l x.number))
        (cond b (reply.Breach breach.Unasked) (reply.Stray y))
    unfolding Keeps
    unmatched_keeps y true is = breach_stands p seats (heard s l x.number) j lane l heard_stands x
        breach.Unasked may is here
    unmatched_keeps y false is = quiet_stands p seats (heard s l x.number) j
        (entry (reply.Stray y)) heard_stands (record { scripted = may.scripted; told = is; kept = refl })
        may.berth refl refl refl refl refl refl (answer_greetings p seats s j lane l x (reply.Stray y) st here refl)
        (quiet y) (spends y)

  back_stands : Stands p seats (reopened (heard s l x.number) l x.number) j
  back_stands = record {
    plan = st.plan;
    sound = st.sound;
    lawful = st.lawful;
    seated = st.seated;
    few = st.few;
    pool = st.pool;
    requests = taken_back p s.requests j l x.number st.requests;
    cancels = st.cancels;
    ready = st.ready;
    race = st.race;
    attempts = st.attempts;
    lanes = st.lanes;
    greetings = st.greetings;
    last = st.last;
    matches = st.matches;
    halted = st.halted;
  }

  consumed_keeps : (t : Attempt) (b : Bool) → is_won s t ≡ b
      → cond b (reply.Late t.action t.branch t.number) (reply.Matched t.action t.branch t.number)
      ≡ plain_reply p j lane (call.Answer l x)
      → Keeps (consumed_with (heard s l x.number) w l x t)
      (cond b (reply.Late t.action t.branch t.number) (reply.Matched t.action t.branch
      t.number))
  unfolding Keeps
  consumed_keeps t true h is =
      subst (λ c. Stands p seats (noted_after (record (heard_late s l x.number) {
        matches =
            cond c s.matches (heard_match s w l x t).matches;
      }) lane (call.Answer l x)
      (reply.Late t.action t.branch t.number)) (entry (reply.Late t.action t.branch t.number)
      ∷ j)) (sym h)
      (late_stands p seats s j lane l x t st may here (one.on t (ap consumed_in (sym is)))
      (one.known t (ap consumed_in (sym is))) is)
  consumed_keeps t false h is =
      subst (λ c. Stands p seats (noted_after (record (heard_late s l x.number) {
        matches =
            cond c s.matches (heard_match s w l x t).matches;
      }) lane (call.Answer l x)
      (reply.Matched t.action t.branch t.number)) (entry
      (reply.Matched t.action t.branch t.number) ∷ j)) (sym h)
      (match_stands p seats s j lane l x t st may here (one.on t (ap consumed_in (sym is)))
      (one.known t (ap consumed_in (sym is))) is (one.waits t (ap matched_in (sym is))))

  consumed_reply_keeps : (t : Attempt) → consumed_reply s t ≡ plain_reply p j lane (call.Answer l x)
      → Keeps (consumed_with (heard s l x.number) w l x t) (consumed_reply s t)
  consumed_reply_keeps t is = consumed_keeps t (is_won s t) refl is

  cancelled_keeps : (t : Attempt) (b : Bool) → cond b (reply.Breach breach.NotCancelled)
      (consumed_reply s t) ≡ plain_reply p j lane (call.Answer l x)
      → Keeps (cond b (breached (reopened (heard s l x.number) l x.number) w l)
      (consumed_with (heard s l x.number) w l x t)) (cond b (reply.Breach breach.NotCancelled)
      (consumed_reply s t))
  unfolding Keeps
  cancelled_keeps t true is = breach_stands p seats (reopened (heard s l x.number) l x.number) j lane l
      back_stands x breach.NotCancelled may is here
  cancelled_keeps t false is = consumed_reply_keeps t is

  matching_keeps : (m : Matching) → matching_of s.requests l x.number ≡ m
      → matching_reply s seat x m ≡ plain_reply p j lane (call.Answer l x)
      → Keeps (matching_with s w seat l x m) (matching_reply s seat x m)
  matching_keeps (found.Pending a t) at is = cancelled_keeps
      (attempt_in s.plan seat a t) x.cancelled is
  matching_keeps (found.Cancelled a t) at is = consumed_reply_keeps (attempt_in s.plan seat a t) is
  matching_keeps found.Closed at is = unmatched_keeps (ap finds_none at) stray.Closed
      (is_single seat.kind) is
  matching_keeps found.Never at is = unmatched_keeps (ap finds_none at) stray.Never
      (is_single seat.kind) is

  wrong_keeps : (b : Bool) → cond b (reply.Breach breach.WrongNumber)
      (matching_reply s seat x (matching_of s.requests l x.number)) ≡ plain_reply p j lane
      (call.Answer l x)
      → Keeps (cond b (breached s w l) (matching_with s w seat l x
      (matching_of s.requests l x.number))) (cond b (reply.Breach breach.WrongNumber)
      (matching_reply s seat x (matching_of s.requests l x.number)))
  unfolding Keeps
  wrong_keeps true is = breach_stands p seats s j lane l st x breach.WrongNumber may is here
  wrong_keeps false is = matching_keeps (matching_of s.requests l x.number) refl is

  -- a greeting
  greeted_quiet : IsQuiet seats j (entry reply.Greeted)
  unfolding wrote
  greeted_quiet = record {
    no_launch = refl;
    no_send = refl;
    no_take = λ m. refl;
    no_break = λ m. refl;
    no_feed = λ t. refl;
  }

  greeted_spends : SpendsNone seats j (entry reply.Greeted)
  unfolding wrote granted grant_of gathered
  greeted_spends = record { no_send = refl; no_match = refl; same = λ t. refl }

  greeted_stands : reply.Greeted ≡ plain_reply p j lane (call.Answer l x)
      → Stands p seats (noted_after s lane (call.Answer l x) reply.Greeted) (entry reply.Greeted ∷ j)
  greeted_stands is = quiet_stands p seats s j (entry reply.Greeted) st
      (record { scripted = may.scripted; told = is; kept = refl }) may.berth refl refl refl refl refl refl
      (answer_greetings p seats s j lane l x reply.Greeted st here refl) greeted_quiet greeted_spends

  greeting_keeps : (b : Bool) → cond b reply.Greeted (told_reply s seat l x) ≡ plain_reply p j lane
      (call.Answer l x) → Keeps (cond b s (told_with s w seat l x))
      (cond b reply.Greeted (told_reply s seat l x))
  unfolding Keeps
  greeting_keeps true is = greeted_stands is
  greeting_keeps false is = wrong_keeps (is_wrong seat x) is

  broken_keeps : (b g : Bool) → cond b (reply.Breach breach.Broken)
      (cond g reply.Greeted (told_reply s seat l x)) ≡ plain_reply p j lane (call.Answer l x)
      → Keeps (cond b (breached s w l) (cond g s (told_with s w seat l x)))
      (cond b (reply.Breach breach.Broken) (cond g reply.Greeted (told_reply s seat l x)))
  unfolding Keeps
  broken_keeps true g is = breach_stands p seats s j lane l st x breach.Broken may is here
  broken_keeps false g is = greeting_keeps g is

  pub answered_stands : answer_reply_by s w seat l x ≡ plain_reply p j lane (call.Answer l x)
      → Stands p seats (noted_after (answered_with s w seat l x) lane (call.Answer l x)
      (answer_reply_by s w seat l x)) (entry (answer_reply_by s w seat l x) ∷ j)
  unfolding Keeps
  answered_stands is = broken_keeps (row_at s l).broken
      (is_greeting_by seat (slice_get s.greetings w) x) is

-- ---- Answer: the reply

each_found : (P : Request → Type 0) (f : Request → Bool) (rs : List Request) (q : Request)
    → EachOf P rs → find f rs ≡ Some q → P q
each_found P f [] q all h = absurd (cc)
each_found P f (y ∷ rs) q all h = by_bool (f y) (λ b. cond b (Some y) (find f rs) ≡ Some q → P q)
    (λ _ k. let z : y ≡ q = cc in subst P z all.0) (λ _ k. each_found P f rs q all.1 k) h

each_head : (P : Request → Type 0) (rs : List Request) (q : Request) → EachOf P rs
    → r.head rs ≡ Some q → P q
each_head P [] q all h = absurd (cc)
each_head P (y ∷ rs) q all h = let z : y ≡ q = cc in subst P z all.0

zero_is : (z : ℤ) → int_eq z (pos 0) ≡ true → z ≡ pos 0
zero_is (pos n) h = ap pos (eqb-true n 0 (sym (int_eq_pos n 0) ∙ h))
zero_is (negsuc n) h = absurd (cc)

module _ (p : Plan) (seats : ℕ) (s : State) (j : List Entry) (lane l : ℕ) (seat : BerthGroup) (x : Answer)
    (st : Stands p seats s j) (facts : JournalFacts p j) (may : MayCall p seats j lane (call.Answer l x))
    (here : last_line j (lane / 2) ≡ Some l) (fits : SeatFits p j (lane / 2) seat)
    (grouped : SentInGroup p j l) (alone : is_single (line_kind p j l) ≡ true
    → length (pending j l) ≤ 1) where
  abbrev v : ℕ
  v = lane / 2

  lt : v < seats
  lt = may.berth

  kind_is : line_kind p j l ≡ seat.kind
  kind_is = fits.kind l here

  group_is : group_on p j l ≡ Some seat.group
  group_is = fits.group l here

  inside : l < line_room p
  inside = let below = (berth_of p seats s j v l st here).below in let fit = facts.lines_fit in
      omega arith

  known_action : (t : Attempt) → BranchOf p t (Some seat.group) → t.action < length p.actions
  known_action t h = by (slice_get p.actions t.action) refl h
    where
      by : (o : Option PlanAction) → slice_get p.actions t.action ≡ o
          → option_and_then (λ y. group_of y t.branch) o ≡ Some seat.group
          → t.action < length p.actions
      by None e k = absurd (cc)
      by (Some y) e k = slice_get_within p.actions t.action y e

  some_map : {X Y : Type 0} (g : X → Y) (o : Option X) → is_some (option_map g o) ≡ is_some o
  some_map g None = refl
  some_map g (Some y) = refl

  won_is : (t : Attempt) → t.action < length p.actions → is_won s t ≡ granted j t.action
  unfolding granted
  won_is t k = ap is_some (winner_is p s.race j t.action st.race k)
      ∙ some_map (λ (y : Attempt × Found). y.0.branch) (grant_of j t.action)

  consumed_is : (q : Request) → BranchOf p q.attempt (Some seat.group)
      → consumed_reply s (attempt_in s.plan seat q.attempt.action q.attempt.number)
      ≡ cond (granted j q.attempt.action) (reply.Late q.attempt.action q.attempt.branch
      q.attempt.number) (reply.Matched q.attempt.action q.attempt.branch q.attempt.number)
  consumed_is q of =
      ap (λ (y : Plan). consumed_reply s (attempt_in y seat q.attempt.action q.attempt.number))
      st.plan ∙ ap (consumed_reply s) (attempt_is p st.sound seat q.attempt of)
      ∙ ap (λ b. cond b (reply.Late q.attempt.action q.attempt.branch q.attempt.number)
      (reply.Matched q.attempt.action q.attempt.branch q.attempt.number))
      (won_is q.attempt (known_action q.attempt of))

  -- with a Cancel, and whether the answer says so
  open_by : (q : Request) (b c : Bool) → x.cancelled ≡ c → BranchOf p q.attempt (Some seat.group)
      → matching_reply s seat x (cond b (found.Cancelled q.attempt.action q.attempt.number)
      (found.Pending q.attempt.action q.attempt.number))
      ≡ cond (c && not b) (reply.Breach breach.NotCancelled)
      (cond (granted j q.attempt.action) (reply.Late q.attempt.action q.attempt.branch
      q.attempt.number) (reply.Matched q.attempt.action q.attempt.branch q.attempt.number))
  open_by q true true k of = consumed_is q of
  open_by q true false k of = consumed_is q of
  open_by q false true k of = ap (λ b. cond b (reply.Breach breach.NotCancelled)
      (consumed_reply s (attempt_in s.plan seat q.attempt.action q.attempt.number))) k
  open_by q false false k of = ap (λ b. cond b (reply.Breach breach.NotCancelled)
      (consumed_reply s (attempt_in s.plan seat q.attempt.action q.attempt.number))) k
      ∙ consumed_is q of

  open_is : (q : Request) → BranchOf p q.attempt (Some seat.group)
      → matching_reply s seat x (open_request j q) ≡ r.consume j x q
  open_is q of = open_by q (has_cancel j q) x.cancelled refl of

  none_found : (y : StrayWhy) (b : Bool) → is_single seat.kind ≡ b
      → unmatched_reply seat y ≡ cond b (reply.Breach breach.Unasked) (reply.Stray y)
  none_found y b h = ap (λ c. cond c (reply.Breach breach.Unasked) (reply.Stray y)) h

  -- on a Single line
  single_none : is_single seat.kind ≡ true → (b : Bool)
      → matching_reply s seat x (cond b found.Closed found.Never) ≡ reply.Breach breach.Unasked
  single_none single true = none_found stray.Closed true single
  single_none single false = none_found stray.Never true single

  single_pending : is_single seat.kind ≡ true → (o : Option Request) → r.head (pending j l) ≡ o
      → matching_reply s seat x (of_pending j l o) ≡ r.answer_single j x o
  single_pending single None e = single_none single (is_some (r.head (sends j l)))
  single_pending single (Some q) e = open_is q (each_head
      (λ y. BranchOf p y.attempt (Some seat.group)) (pending j l) q
      (pending_grouped p s.requests j l st.requests inside st.sound seat.group group_is grouped)
      e)

  -- on every other
  multi_by : is_single seat.kind ≡ false → (o : Option Request)
      → ((q : Request) → o ≡ Some q → BranchOf p q.attempt (Some seat.group))
      → matching_reply s seat x (of_sent j o) ≡ r.answer_multi j x o
  multi_by several None of = none_found stray.Never false several
  multi_by several (Some q) of = by_bool (is_pending j q)
      (λ b. matching_reply s seat x (cond b (open_request j q) found.Closed) ≡ cond b
      (r.consume j x q) (reply.Stray stray.Closed))
      (λ _. open_is q (of q refl)) (λ _. none_found stray.Closed false several)

  grouped_here : EachOf (λ q. BranchOf p q.attempt (Some seat.group)) (sends j l)
  grouped_here = each_with (λ q. BranchOf p q.attempt (group_on p j l))
      (λ q. BranchOf p q.attempt (Some seat.group)) (sends j l) (λ q h. h ∙ group_is) grouped

  by_kind : (b c : Bool) → is_single (line_kind p j l) ≡ b → int_eq x.number (pos 0) ≡ c
      → cond (b && not c) (reply.Breach breach.WrongNumber)
      (matching_reply s seat x (matching_of s.requests l x.number))
      ≡ cond b (cond c (r.answer_single j x (r.head (pending j l)))
      (reply.Breach breach.WrongNumber)) (r.answer_multi j x
      (find (λ q. int_eq q.number x.number) (sends j l)))
  by_kind true false h k = refl
  by_kind true true h k =
      ap (matching_reply s seat x) (ap (matching_of s.requests l) (zero_is x.number k)
      ∙ single_answer p s.requests j l st.requests inside
      (subst (λ b. Numbered b (sends j l)) h (facts.numbered v l here)) (alone h))
      ∙ single_pending (sym (ap is_single kind_is) ∙ h) (r.head (pending j l)) refl
  by_kind false c h k =
      ap (matching_reply s seat x) (multi_answer p s.requests j l x.number st.requests inside
      (subst (λ b. Numbered b (sends j l)) h (facts.numbered v l here)))
      ∙ multi_by (sym (ap is_single kind_is) ∙ h) (find (λ q. int_eq q.number x.number) (sends j l))
      (λ q e. each_found (λ y. BranchOf p y.attempt (Some seat.group))
      (λ y. int_eq y.number x.number) (sends j l) q grouped_here e)

  spoken_is : spoken_on (slice_get s.greetings v) ≡ has_spoken j l
  unfolding greeting_in
  spoken_is = ap spoken_on (st.greetings v ∙ ap (λ b. cond b
      (Some (greeting_of j (last_line j v))) None) (lt-ltb v seats lt)
      ∙ ap (λ o. Some (greeting_of j o)) here)

  greeting_is : is_greeting_by seat (slice_get s.greetings v) x ≡ r.is_greeting_of j (line_kind p j l) l x
  greeting_is = λ i. is_remote (sym kind_is i) && (int_eq x.number (pos 0)
      && (int_le (pos 2) x.version && not (spoken_is i)))

  told_is : told_reply s seat l x
      ≡ cond (is_single (line_kind p j l)) (cond (int_eq x.number (pos 0))
      (r.answer_single j x (r.head (pending j l))) (reply.Breach breach.WrongNumber))
      (r.answer_multi j x (find (λ q. int_eq q.number x.number) (sends j l)))
  told_is =
      (λ i. cond (is_single (sym kind_is i) && not (int_eq x.number (pos 0)))
      (reply.Breach breach.WrongNumber) (matching_reply s seat x
      (matching_of s.requests l x.number)))
      ∙ by_kind (is_single (line_kind p j l)) (int_eq x.number (pos 0)) refl refl

  pub answer_is : answer_reply_by s v seat l x ≡ plain_reply p j lane (call.Answer l x)
  answer_is = λ i. cond (broken_is p seats s j v l st here i) (reply.Breach breach.Broken)
      (cond (greeting_is i) reply.Greeted (told_is i))

-- ---- Take: the reply

module _ (p : Plan) (seats : ℕ) (s : State) (j : List Entry) (lane : ℕ) (st : Stands p seats s j)
    (may : MayCall p seats j lane call.Take) where
  abbrev u : ℕ
  u = lane / 2

  lt_too : u < seats
  lt_too = may.berth

  taken_is : (l : ℕ) → last_line j u ≡ Some l → taken_on (slice_get s.last u) ≡ was_taken j l
  unfolding last_in
  taken_is l h =
      let within : nat_lt u seats ≡ true = lt-ltb u seats lt_too in
      ap taken_on (st.last u ∙ ap (λ b. cond b (Some (row_of j (last_line j u))) None) within
      ∙ ap (λ o. Some (row_of j o)) h)

  take_by : (o : Option ℕ) → last_line j u ≡ o → is_over s ≡ r.is_over p j
      → take_reply s (takes_line s u o) ≡ r.take_reply p j o
  take_by None h over = ap (λ b. cond b reply.Stop reply.Idle) over
  take_by (Some l) h over =
      ap (λ b. take_reply s (cond b (Some l) None)) (λ i. started_is p seats s j u l st h i
      && not (taken_is l h i))
      ∙ by (started j l && not (was_taken j l))
    where
      by : (b : Bool) → take_reply s (cond b (Some l) None) ≡ cond b (reply.Line l)
          (cond (r.is_over p j) reply.Stop reply.Idle)
      by true = refl
      by false = ap (λ c. cond c reply.Stop reply.Idle) over

  over_eq : is_over s ≡ r.is_over p j
  over_eq = ap (λ b. b || s.halted) (over_is p s.ready j st.ready st.sound)
      ∙ ap (λ b. all_settled p j || b) st.halted

  pub take_is : take_reply s (takeable s u) ≡ plain_reply p j lane call.Take
  take_is = ap (λ o. take_reply s (takes_line s u o)) (last_is p seats s.pool j st.pool u lt_too)
      ∙ take_by (last_line j u) refl over_eq
