-- What an Ended makes of a state that stands for a journal.
use Rattle.std.proofs.Common.{◌≡◌, ℕ, ◌/◌, ◌<◌, ◌==◌, nat_lt, Bool, true, false, ◌&&◌, ◌||◌, not, cond, List, [], ◌∷◌, ◌++◌, length, filter, map, reverse, Option, Some, None, is_some, option_map, unwrap_or, refl, ap, sym, subst, ◌∙◌, arith}
use Rattle.std.specs.Prelude.{slice_get}
use Rattle.std.specs.List.{find}
use Rattle.std.proofs.lemmas.Bool.{eq-eqb, lt-ltb}
use Rattle.run_plan.specs.declared.plan.Branch.{Branch}
use Rattle.run_plan.specs.declared.plan.Plan.{Plan}
use Rattle.exec_journal.specs.declared.attempt.Attempt.{Attempt}
use Rattle.exec_journal.specs.declared.ends.Cause.{Cause}
use Rattle.exec_journal.specs.Entry.{Entry}
use Rattle.exec_journal.specs.declared.call.Call.TheVariants as call
use Rattle.exec_journal.specs.declared.call.HowEnded.{HowEnded}
use Rattle.exec_journal.specs.declared.reply.Reply.TheVariants as reply
use Rattle.exec_journal.specs.Attempts.{ended, line_of}
use Rattle.exec_journal.specs.Entries.{Request}
use Rattle.exec_journal.specs.Facts.{begun}
use Rattle.list_lemmas.specs.Options.{or_else, unless_before}
use Rattle.exec_journal.specs.Lawful.{LawfulEntry}
use Rattle.exec_journal.specs.Rules.{gathered}
use Rattle.exec_journal.specs.Seated.{group_on}
use Rattle.exec_journal.specs.Settled.{bound}
use Rattle.list_lemmas.specs.Places.{update}
use Rattle.exec_journal.specs.Words.{halted, last_line, launch_of, line_cause, was_taken, sends, pending, is_pending, wrote, granted, grant_of, commit_of, has_ended, says_feed_fault, end_cause, started, was_killed, broke}
use Rattle.exec_journal.proofs.Begins.{attempts_in_order, attempt_other, bound_is, launched_begun}
use Rattle.exec_journal.proofs.Ruled.{by_bool}
use Rattle.list_lemmas.proofs.Updates.{get_update}
use Rattle.worker_pool.specs.Entries.{WantedStays, CarriesItsBound}
use Rattle.worker_pool.specs.Rows as rows
use Rattle.worker_pool.specs.Stands as pools
use Rattle.worker_pool.specs.Stands.{line_in}
use Rattle.worker_pool.specs.declared.LineRow.{LineRow}
use Rattle.worker_pool.proofs.Bound.{ends_unbind}
use Rattle.worker_pool.proofs.Lives.{ends_kept}
use Rattle.request_table.specs.declared.RequestRow.{RequestRow}
use Rattle.request_table.specs.Entries.{EachOf}
use Rattle.request_table.specs.Rows.{line_room, is_open}
use Rattle.request_table.specs.Rows as ask-rows
use Rattle.request_table.proofs.Kept as asks
use Rattle.request_table.proofs.Lists.{reverse_front, each_filter}
use Rattle.cancel_rules.proofs.Followed as marks
use Rattle.race_core.specs.declared.Won.{Won}
use Rattle.race_core.proofs.Kept as races
use Rattle.ready_order.specs.declared.ActionState.{ActionState}
use Rattle.ready_order.specs.Entries.{is_among}
use Rattle.ready_order.specs.Stands as queue-stands
use Rattle.retry_rules.specs.Counts as counts
use Rattle.core_tables.specs.declared.berth_group.BerthGroup.{BerthGroup}
use Rattle.core_state.specs.declared.state.State.{State}
use Rattle.core_state.specs.Choices.{row_at, attempt_on}
use Rattle.core_laws.specs.Ends.{chain_counts, chain_states}
use Rattle.table_laws.specs.Moments.{JournalFacts, AreUsed, SentInGroup, is_line, is_left, is_left_on, if_there, lost_with, LostOn}
use Rattle.core_tables.specs.Last.{last_in, row_of, row_by, fed_of, set_cause}
use Rattle.core_state.specs.Machine.{counts_after, states_after, end_of_some}
use Rattle.core_state.specs.Noted.{noted_after}
use Rattle.core_laws.specs.Premises.{AllBegun, EndsTogether}
use Rattle.core_state.specs.Reports.{attempt_in, places_counts, places_states, end_all, fed_on, bound_on, closed, ended_with}
use Rattle.core_laws.specs.Stands.{MayCall, SeatFits, Stands}
use Rattle.core_laws.proofs.Asked.{sends_begun, attempts_are}
use Rattle.request_table.proofs.Sent.{open_is}
use Rattle.core_laws.proofs.Own.{lanes_kept, matches_kept, SpendsNone}
use Rattle.core_laws.proofs.Rowed.{berth_of, changed_last}
use Rattle.core_laws.proofs.Several.{several_counts, several_states}
use Rattle.core_laws.proofs.Greeted.{quiet_greetings}

-- ---- the ends as one list

chain_more : (race : List Won) (f : counts.Facts) (xs ys : List Attempt)
    → chain_counts race (chain_counts race f xs) ys ≡ chain_counts race f (xs ++ ys)
chain_more race f [] ys = refl
chain_more race f (x ∷ xs) ys = chain_more race (counts_after race f x) xs ys

states_more : (p : Plan) (race : List Won) (f : counts.Facts) (states : List ActionState)
    (xs ys : List Attempt) → chain_states p race (chain_counts race f xs)
    (chain_states p race f states xs) ys ≡ chain_states p race f states (xs ++ ys)
states_more p race f states [] ys = refl
states_more p race f states (x ∷ xs) ys = states_more p race (counts_after race f x)
    (states_after p race f states x) xs ys

abbrev ended_many : State → List Attempt → State
ended_many s ts = record s {
  attempts = chain_counts s.race s.attempts ts;
  ready = chain_states s.plan s.race s.attempts s.ready ts;
}

many_more : (s : State) (xs ys : List Attempt) → ended_many (ended_many s xs) ys ≡ ended_many s
    (xs ++ ys)
many_more s xs ys = λ i. record s {
  attempts = chain_more s.race s.attempts xs ys i;
  ready = states_more s.plan s.race s.attempts s.ready xs ys i;
}

some_ends : (s : State) (o : Option Attempt) → end_of_some s o ≡ ended_many s (if_there o)
some_ends s None = refl
some_ends s (Some t) = refl

module _ (p : Plan) (race : List Won) (seat : BerthGroup) where
  abbrev its : RequestRow → Attempt
  its x = attempt_in p seat x.action x.attempt

  counts_are : (xs : List RequestRow) (f : counts.Facts)
      → places_counts p race f seat xs ≡ chain_counts race f (map its (filter is_open xs))
  counts_are [] f = refl
  counts_are (x ∷ xs) f = elim x.pending as (λ b. places_counts p race
      (cond b (counts_after race f (its x)) f) seat xs ≡ chain_counts race f
      (map its (cond b (x ∷ filter is_open xs) (filter is_open xs)))) [
        | true ↦ counts_are xs (counts_after race f (its x))
        | false ↦ counts_are xs f
      ]

  states_are : (xs : List RequestRow) (f : counts.Facts) (states : List ActionState)
      → places_states p race f states seat xs ≡ chain_states p race f states
      (map its (filter is_open xs))
  states_are [] f states = refl
  states_are (x ∷ xs) f states = elim x.pending as (λ b. places_states p race
      (cond b (counts_after race f (its x)) f) (cond b (states_after p race f states (its x))
      states) seat xs ≡ chain_states p race f states (map its
      (cond b (x ∷ filter is_open xs) (filter is_open xs)))) [
        | true ↦ states_are xs (counts_after race f (its x)) (states_after p race f states (its x))
        | false ↦ states_are xs f states
      ]

all_ends : (s : State) (seat : BerthGroup) (xs : List RequestRow)
    → end_all s seat xs ≡ ended_many s (map (λ x. attempt_in s.plan seat x.action x.attempt)
    (filter is_open xs))
all_ends s seat xs = λ i. record s {
  attempts = counts_are s.plan s.race seat xs s.attempts i;
  ready = states_are s.plan s.race seat xs s.attempts s.ready i;
}

-- ---- the entry

module _ (p : Plan) (seats : ℕ) (s : State) (j : List Entry) (lane l : ℕ) (seat : BerthGroup) (how : HowEnded)
    (st : Stands p seats s j) (facts : JournalFacts p j) (may : MayCall p seats j lane (call.Ended l how))
    (here : last_line j (lane / 2) ≡ Some l) (fits : SeatFits p j (lane / 2) seat)
    (used : AreUsed p j) (grouped : SentInGroup p j l) (lost : LostOn p j l)
    (carries : CarriesItsBound p j) (stays : WantedStays p j
    (record { lane = lane; call = call.Ended l how; reply = reply.Noted }))
    (ends : (u : Attempt) → ended (record {
      lane = lane;
      call = call.Ended l how;
      reply = reply.Noted;
    } ∷ j) u ≡ (ended j u || is_left_on j l u)) where
  abbrev e : Entry
  e = record { lane = lane; call = call.Ended l how; reply = reply.Noted }

  joins : LawfulEntry p j e
  joins = record { scripted = may.scripted; told = refl; kept = refl }

  lt : lane / 2 < seats
  lt = may.berth

  group_is : group_on p j l ≡ Some seat.group
  group_is = fits.group l here

  inside : l < line_room p
  inside = let below = (berth_of p seats s j (lane / 2) l st here).below in let fit = facts.lines_fit in
      omega arith

  -- ---- which attempts the machine ends

  places_are : map (λ x. attempt_in s.plan seat x.action x.attempt)
      (filter is_open (ask-rows.places_of s.requests l)) ≡ reverse
      (map (λ r. r.attempt) (pending j l))
  places_are =
      ap (λ (q : Plan). map (λ (x : RequestRow). attempt_in q seat x.action x.attempt)
      (filter is_open (ask-rows.places_of s.requests l))) st.plan
      ∙ ap (map (λ (x : RequestRow). attempt_in p seat x.action x.attempt))
      (open_is p s.requests j l st.requests inside)
      ∙ attempts_are p s.requests j l st.requests inside st.sound
      seat.group group_is grouped seat refl

  row_is : slice_get s.last (lane / 2) ≡ Some (row_of j (Some l))
  unfolding last_in
  row_is =
      let within : nat_lt (lane / 2) seats ≡ true = lt-ltb (lane / 2) seats lt in
      st.last (lane / 2) ∙ ap (λ b. cond b (Some (row_of j (last_line j (lane / 2)))) None) within
      ∙ ap (λ o. Some (row_of j o)) here

  fed_is : fed_on (slice_get s.last (lane / 2)) ≡ fed_of j l
  fed_is = ap fed_on row_is

  bound_row : (row_at s l).bound ≡ is_some (bound p j l)
  unfolding line_in
  bound_row =
      let own = berth_of p seats s j (lane / 2) l st here in
      ap (λ (o : Option LineRow). (unwrap_or o (rows.new_line 0)).bound)
      (st.pool.each_line l ∙ ap (λ (o : Option (ℕ × Attempt)). pools.row_of p o (started j l)
      (broke j l) (has_ended j l) (was_killed j l) (is_some (bound p j l))
      (length (pending j l))) own.owner.2)

  bound_by : (o : Option Attempt) → bound p j l ≡ o → cond (is_some o)
      (attempt_on (slice_get s.last (lane / 2))) None ≡ o
  bound_by None h = refl
  bound_by (Some t) h = ap attempt_on row_is ∙ ap (option_map (λ x. x.1))
      (bound_is p j l t h).launched

  bound_are : bound_on s (lane / 2) l ≡ bound p j l
  bound_are = ap (λ b. cond b (attempt_on (slice_get s.last (lane / 2))) None) bound_row
      ∙ bound_by (bound p j l) refl

  abbrev ts : List Attempt
  ts = lost_with p j l

  state_is : ended_with s (lane / 2) seat l how ≡ closed (ended_many s ts) (lane / 2) l how
  state_is = ap (λ x. closed x (lane / 2) l how)
      ((λ i. end_of_some (end_of_some (all_ends s seat (ask-rows.places_of s.requests l) i)
      (fed_is i)) (bound_are i))
      ∙ (λ i. end_of_some (end_of_some (ended_many s (places_are i)) (fed_of j l)) (bound p j l))
      ∙ ap (λ x. end_of_some x (bound p j l)) (some_ends
      (ended_many s (reverse (map (λ r. r.attempt) (pending j l)))) (fed_of j l))
      ∙ some_ends (ended_many (ended_many s (reverse (map (λ r. r.attempt) (pending j l))))
      (if_there (fed_of j l))) (bound p j l)
      ∙ many_more (ended_many s (reverse (map (λ r. r.attempt) (pending j l))))
      (if_there (fed_of j l)) (if_there (bound p j l))
      ∙ many_more s (reverse (map (λ r. r.attempt) (pending j l)))
      (if_there (fed_of j l) ++ if_there (bound p j l)))

  -- ---- they were begun

  all_append : (xs ys : List Attempt) → AllBegun p j xs → AllBegun p j ys → AllBegun p j (xs ++ ys)
  all_append [] ys a b = b
  all_append (x ∷ xs) ys a b = (a.0, all_append xs ys a.1 b)

  all_reverse : (rs : List Request) → EachOf (λ r. begun j r.attempt ≡ true) rs
      → AllBegun p j (reverse (map (λ r. r.attempt) rs))
  all_reverse [] h = tt
  all_reverse (r ∷ rs) h = subst (AllBegun p j) (sym
      (reverse_front r.attempt (map (λ x. x.attempt) rs)))
      (all_append (reverse (map (λ x. x.attempt) rs)) (r.attempt ∷ []) (all_reverse rs h.1)
      ((h.0, used r.attempt h.0), tt))

  all_found : (f : Request → Bool) (rs : List Request) → EachOf (λ r. begun j r.attempt ≡ true) rs
      → AllBegun p j (if_there (option_map (λ r. r.attempt) (find f rs)))
  all_found f [] h = tt
  all_found f (r ∷ rs) h = by_bool (f r) (λ b. AllBegun p j
      (if_there (option_map (λ x. x.attempt) (cond b (Some r) (find f rs)))))
      (λ _. ((h.0, used r.attempt h.0), tt)) (λ _. all_found f rs h.1)

  fed_begun : AllBegun p j (if_there (fed_of j l))
  unfolding fed_of
  fed_begun = all_found (λ r. says_feed_fault (wrote j r.attempt)) (sends j l) (sends_begun j l)

  bound_begun : (o : Option Attempt) → bound p j l ≡ o → AllBegun p j (if_there o)
  bound_begun None h = tt
  bound_begun (Some t) h = (let b = bound_is p j l t h in
      let start = launched_begun j l b.lane t b.launched in ((start, used t start), tt))

  pending_begun : AllBegun p j (reverse (map (λ r. r.attempt) (pending j l)))
  unfolding pending
  pending_begun = all_reverse (filter (is_pending j) (sends j l))
      (each_filter (λ r. begun j r.attempt ≡ true) (is_pending j) (sends j l) (sends_begun j l))

  all : AllBegun p j ts
  all = all_append (reverse (map (λ r. r.attempt) (pending j l)))
      (if_there (fed_of j l) ++ if_there (bound p j l)) pending_begun
      (all_append (if_there (fed_of j l)) (if_there (bound p j l)) fed_begun
      (bound_begun (bound p j l) refl))

  -- ---- exactly they end

  and_true : (b : Bool) → (b && true) ≡ b
  and_true true = refl
  and_true false = refl

  and_none : (x y : Bool) → (x && (y && false)) ≡ false
  and_none true true = refl
  and_none true false = refl
  and_none false y = refl

  and_off : (x : Bool) → (x && false) ≡ false
  and_off true = refl
  and_off false = refl

  left_is : (u : Attempt) → ended j u ≡ false → (is_line (line_of j u) l
      && (is_left j u && not (granted j u.action))) ≡ (is_among ts u && not (granted j u.action))
  left_is u going =
      by_bool (granted j u.action) (λ g. granted j u.action ≡ g
      → (is_line (line_of j u) l && (is_left j u && not g)) ≡ (is_among ts u && not g))
      (λ _ _. and_none (is_line (line_of j u) l) (is_left j u) ∙ sym (and_off (is_among ts u)))
      (λ _ free. ap (λ b. is_line (line_of j u) l && b) (and_true (is_left j u))
      ∙ lost.each u going free ∙ sym (and_true (is_among ts u))) refl

  same_grant : (a : ℕ) → grant_of (e ∷ j) a ≡ grant_of j a
  unfolding grant_of
  same_grant a = refl

  same_commit : (a : ℕ) (b : Branch) → commit_of (e ∷ j) a b ≡ commit_of j a b
  unfolding commit_of
  same_commit a b = refl

  together : EndsTogether j e ts
  together = record {
    these = λ u. ends u ∙ by_bool (ended j u) (λ b. ended j u ≡ b
        → (b || is_left_on j l u) ≡ (b || (is_among ts u && not (granted j u.action))))
        (λ _ _. refl) (λ _ going. left_is u going) refl;
    none_begins = λ a b. attempt_other e j a b refl;
    grant = same_grant;
    commit = same_commit;
  }

  -- ---- the core's own rows

  cause_more : (c : Cause) (o : Option Cause) → unless_before (Some c) o ≡ or_else o (Some c)
  cause_more c None = refl
  cause_more c (Some d) = refl

  own_row : row_of (e ∷ j) (Some l) ≡ set_cause (end_cause how) (row_of j (Some l))
  unfolding launch_of was_taken line_cause fed_of sends wrote
  own_row = ap (λ c. row_by (option_map (λ z. z.1) (launch_of j l)) (was_taken j l) c (fed_of j l))
      ((λ z. unless_before (cond (eq-eqb l l refl z) (Some (end_cause how)) None) (line_cause j l))
      ∙ cause_more (end_cause how) (line_cause j l))

  other_row : (k : ℕ) → (l == k) ≡ false → row_of (e ∷ j) (Some k) ≡ row_of j (Some k)
  unfolding launch_of was_taken line_cause fed_of sends wrote
  other_row k h = rw h refl

  spends : SpendsNone seats j e
  unfolding wrote granted grant_of gathered
  spends = record { no_send = refl; no_match = refl; same = λ u. refl }

  ended_closed : Stands p seats (noted_after (closed (ended_many s ts) (lane / 2) l how) lane
      (call.Ended l how) reply.Noted) (e ∷ j)
  unfolding halted
  ended_closed = record {
    plan = st.plan;
    sound = st.sound;
    lawful = (st.lawful, joins);
    seated = (st.seated, may.berth);
    few = st.few;
    pool = ends_kept p seats s.pool j lane l st.pool how (ends_unbind p j lane l how stays carries);
    requests = asks.ends_kept j lane l how p s.requests st.requests;
    cancels = marks.ends_kept p s.cancels j lane l how st.cancels;
    ready = subst (λ (q : Plan). queue-stands.Stands p (chain_states q s.race s.attempts s.ready ts)
        (e ∷ j)) (sym st.plan)
        (several_states p st.sound.least s.race j e ts (record {
          order =
              attempts_in_order p j st.lawful;
          unbegun = facts.unbegun_goes;
          won = st.race;
        }) all
        together s.attempts st.attempts s.ready st.ready);
    race = races.others p s.race j (e ∷ j) st.race (record {
      grant = same_grant;
      commit = same_commit;
    });
    attempts = several_counts p st.sound.least s.race j e ts
        (record {
          order = attempts_in_order p j st.lawful;
          unbegun = facts.unbegun_goes;
          won = st.race;
        }) all together s.attempts st.attempts s.ready st.ready;
    lanes = lanes_kept seats j e s.lanes st.lanes;
    greetings = quiet_greetings seats j e refl refl s.greetings st.greetings;
    last = changed_last p seats s j e l st here (set_cause (end_cause how)) refl own_row other_row
        (update (set_cause (end_cause how)) s.last (lane / 2))
        (λ v. get_update (set_cause (end_cause how)) s.last (lane / 2) v);
    matches = matches_kept seats j e spends s.matches st.matches;
    halted = st.halted;
  }

  pub ended_stands : Stands p seats (noted_after (ended_with s (lane / 2) seat l how) lane
      (call.Ended l how) reply.Noted) (e ∷ j)
  ended_stands = subst (λ x. Stands p seats (noted_after x lane (call.Ended l how) reply.Noted) (e ∷ j))
      (sym state_is) ended_closed
