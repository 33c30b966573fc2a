-- What the order of an Ask makes of a state that stands for a journal.
use Rattle.std.proofs.Common.{◌≡◌, ℕ, zero, suc, ◌/◌, ◌<◌, ◌==◌, nat_lt, Bool, true, false, ◌&&◌, ◌||◌, cond, List, [], ◌∷◌, map, reverse, Option, Some, None, option_map, refl, ap, sym, subst, ◌∙◌, arith}
use Rattle.std.specs.Prelude.{slice_get, ℤ}
use Rattle.std.proofs.lemmas.Bool.{eq-eqb}
use Rattle.arrayvec.specs.ArrayVec.{ArrayVec}
use Rattle.run_plan.specs.declared.plan.Plan.{Plan}
use Rattle.exec_journal.specs.declared.attempt.Attempt.{Attempt}
use Rattle.exec_journal.specs.Entry.{Entry}
use Rattle.exec_journal.specs.declared.call.Call.{Call}
use Rattle.exec_journal.specs.declared.call.Call.TheVariants as call
use Rattle.exec_journal.specs.declared.reply.Reply.{Reply}
use Rattle.exec_journal.specs.declared.reply.Reply.TheVariants as reply
use Rattle.exec_journal.specs.declared.reply.Why.{Why}
use Rattle.exec_journal.specs.Entries.{same_attempt, is_halt, granted_in}
use Rattle.exec_journal.specs.Facts.{SameActions, IsFresh, BeginsNext, OfBerth}
use Rattle.list_lemmas.specs.Options.{or_else, and_more}
use Rattle.exec_journal.specs.Attempts.{begun_in, ended}
use Rattle.exec_journal.specs.Rules.{gathered}
use Rattle.request_table.specs.Entries.{is_still, is_calm}
use Rattle.exec_journal.specs.Seated.{kind_for}
use Rattle.list_lemmas.specs.Places.{update}
use Rattle.exec_journal.specs.Words.{halted, last_line, launch_of, line_count, line_cause, was_taken, sends, wrote, granted, grant_of}
use Rattle.exec_journal.proofs.Begins.{queued_is, begin_in_order}
use Rattle.journal_laws.proofs.Fresh.{fresh}
use Rattle.exec_journal.proofs.Lines.{last_line_own, lines_named, launch_stays}
use Rattle.list_lemmas.proofs.Updates.{get_update}
use Rattle.worker_pool.specs.Entries.{is_aside, ends_nothing, IsNew}
use Rattle.worker_pool.specs.Rows as rows
use Rattle.worker_pool.specs.Stands as pools
use Rattle.worker_pool.proofs.Kept.{quiet_kept}
use Rattle.worker_pool.proofs.Words.{quiet_actions}
use Rattle.worker_pool.proofs.Launched.{launches_kept, launch_actions}
use Rattle.request_table.proofs.Kept as asks
use Rattle.request_table.proofs.Sent as asks-sent
use Rattle.request_table.proofs.Lists.{map_map, map_reverse}
use Rattle.cancel_rules.proofs.Followed as marks
use Rattle.ready_order.proofs.Followed as queues
use Rattle.race_core.proofs.Kept as races
use Rattle.retry_rules.proofs.Counted as tallies
use Rattle.core_tables.specs.declared.last.LastLine.{LastLine}
use Rattle.core_tables.specs.declared.matches.Match.{Match}
use Rattle.core_state.specs.declared.choice.Choice.TheVariants as choice
use Rattle.core_state.specs.declared.state.State.{State}
use Rattle.table_laws.specs.Moments.{JournalFacts}
use Rattle.core_tables.specs.Last.{last_in, row_of, row_by, fed_of, set_launched}
use Rattle.core_state.specs.Machine.{carried, launched_for}
use Rattle.core_tables.specs.Matches.{match_in, matches_in, spend_if, spent_row, with_spent}
use Rattle.call_laws.specs.Matches.{Matched, recent, is_faulty}
use Rattle.core_tables.specs.Greetings.{greeting_in, with_said}
use Rattle.core_state.specs.Noted.{noted_after}
use Rattle.core_laws.specs.Stands.{Stands, MayCall}
use Rattle.core_laws.proofs.Own.{lanes_kept, last_kept, matches_kept, IsQuiet, SpendsNone, ready_kept, race_kept, attempts_kept, map_matches}
use Rattle.core_laws.proofs.Greeted.{quiet_greetings, launch_greetings}
use Rattle.exec_journal.specs.Lawful.{LawfulEntry, Asked, IsNextOf}

abbrev asked : ℕ → Reply → Entry
asked lane x = record { lane = lane; call = call.Ask; reply = x }

-- ---- an entry that changes no table but the core's own

module _ (p : Plan) (seats : ℕ) (s : State) (j : List Entry) (e : Entry) (st : Stands p seats s j)
    (joins : LawfulEntry p j e) (berth : e.lane / 2 < seats) (aside : is_aside e ≡ true) (nothing : ends_nothing e.call ≡ true)
    (still : is_still e.reply ≡ true) (calm : is_calm e.call ≡ true)
    (ungranted : granted_in e.call e.reply ≡ None) (plain : begun_in e.reply ≡ None)
    (told : (w : ℕ) → slice_get (with_said s.greetings (e.lane / 2) e.call e.reply) w
    ≡ greeting_in seats (e ∷ j) w) where
  abbrev with_own : State → List LastLine → List (ArrayVec Match) → State
  with_own t rows ms = record t { last = rows; matches = ms }

  same : SameActions j (e ∷ j)
  same = quiet_actions e j aside nothing

  pub own_stands : (rows : List LastLine) (ms : List (ArrayVec Match))
      → ((w : ℕ) → slice_get rows w ≡ last_in seats (e ∷ j) w)
      → ((w : ℕ) → slice_get ms w ≡ matches_in seats (e ∷ j) w)
      → Stands p seats (with_own (noted_after s e.lane e.call e.reply) rows ms) (e ∷ j)
  unfolding halted
  own_stands rows ms last matches = record {
    plan = st.plan;
    sound = st.sound;
    lawful = (st.lawful, joins);
    seated = (st.seated, berth);
    few = st.few;
    pool = quiet_kept p seats s.pool j e st.pool aside nothing;
    requests = asks.others p s.requests j e st.requests still calm;
    cancels = marks.others p s.cancels j e st.cancels still calm ungranted;
    ready = ready_kept p j e same plain s.ready st.ready;
    race = race_kept p j e same plain s.race st.race;
    attempts = attempts_kept p j e same plain s.attempts st.attempts;
    lanes = lanes_kept seats j e s.lanes st.lanes;
    greetings = told;
    last = last;
    matches = matches;
    halted = ap (λ b. is_halt e.call || b) st.halted;
  }

  pub quiet_stands : IsQuiet seats j e → SpendsNone seats j e
      → Stands p seats (noted_after s e.lane e.call e.reply) (e ∷ j)
  quiet_stands quiet spends = own_stands s.last s.matches (last_kept seats j e quiet s.last st.last)
      (matches_kept seats j e spends s.matches st.matches)

-- ---- Kill, Stop

module _ (seats : ℕ) (j : List Entry) (lane : ℕ) where
  kill_quiet : (l : ℕ) (y : Why) → IsQuiet seats j (asked lane (reply.Kill l y))
  unfolding wrote
  kill_quiet l y = record {
    no_launch = refl;
    no_send = refl;
    no_take = λ m. refl;
    no_break = λ m. refl;
    no_feed = λ t. refl;
  }

  kill_spends : (l : ℕ) (y : Why) → SpendsNone seats j (asked lane (reply.Kill l y))
  unfolding wrote granted grant_of gathered
  kill_spends l y = record { no_send = refl; no_match = refl; same = λ t. refl }

  stop_quiet : (c : Call) → IsQuiet seats j (asked lane reply.Stop)
  unfolding wrote
  stop_quiet c = record {
    no_launch = refl;
    no_send = refl;
    no_take = λ m. refl;
    no_break = λ m. refl;
    no_feed = λ t. refl;
  }

  stop_spends : SpendsNone seats j (asked lane reply.Stop)
  unfolding wrote granted grant_of gathered
  stop_spends = record { no_send = refl; no_match = refl; same = λ t. refl }

  gather_quiet : (l : ℕ) (n : ℤ) (t : Attempt) (x : ℤ) (v : Bool)
      → IsQuiet seats j (asked lane (reply.Gather l n t.action t.branch t.number x v))
  unfolding wrote
  gather_quiet l n t x v = record {
    no_launch = refl;
    no_send = refl;
    no_take = λ m. refl;
    no_break = λ m. refl;
    no_feed = λ u. refl;
  }

  cancel_quiet : (l : ℕ) (n : ℤ) → IsQuiet seats j (asked lane (reply.Cancel l n))
  unfolding wrote
  cancel_quiet l n = record {
    no_launch = refl;
    no_send = refl;
    no_take = λ m. refl;
    no_break = λ m. refl;
    no_feed = λ u. refl;
  }

  cancel_spends : (l : ℕ) (n : ℤ) → SpendsNone seats j (asked lane (reply.Cancel l n))
  unfolding wrote granted grant_of gathered
  cancel_spends l n = record { no_send = refl; no_match = refl; same = λ t. refl }

or_assoc : (x y z : Bool) → (x || (y || z)) ≡ ((x || y) || z)
or_assoc true y z = refl
or_assoc false y z = refl

pub get_map : {X Y : Type 0} (g : X → Y) (xs : List X) (i : ℕ)
    → slice_get (map g xs) i ≡ option_map g (slice_get xs i)
get_map g [] i = refl
get_map g (x ∷ xs) zero = refl
get_map g (x ∷ xs) (suc i) = get_map g xs i

module _ (p : Plan) (seats : ℕ) (s : State) (j : List Entry) (lane : ℕ) (st : Stands p seats s j)
    (may : MayCall p seats j lane call.Ask) where
  pub kill_stands : (l : ℕ) (y : Why) → Asked p j (lane / 2) (reply.Kill l y)
      → Stands p seats (noted_after s lane call.Ask (reply.Kill l y)) (asked lane (reply.Kill l y) ∷ j)
  kill_stands l y is = quiet_stands p seats s j (asked lane (reply.Kill l y)) st
      (record { scripted = may.scripted; told = is; kept = refl }) may.berth refl refl refl refl refl refl
      (quiet_greetings seats j (asked lane (reply.Kill l y)) refl refl s.greetings st.greetings)
      (kill_quiet seats j lane l y) (kill_spends seats j lane l y)

  pub stop_stands : Asked p j (lane / 2) reply.Stop
      → Stands p seats (noted_after s lane call.Ask reply.Stop) (asked lane reply.Stop ∷ j)
  stop_stands is = quiet_stands p seats s j (asked lane reply.Stop) st
      (record { scripted = may.scripted; told = is; kept = refl }) may.berth refl refl refl refl refl refl
      (quiet_greetings seats j (asked lane reply.Stop) refl refl s.greetings st.greetings)
      (stop_quiet seats j lane call.Ask) (stop_spends seats j lane)

  -- ---- Gather

  module _ (l : ℕ) (n : ℤ) (t : Attempt) (x : ℤ) (v : Bool) where
    abbrev gather_entry : Entry
    gather_entry = asked lane (reply.Gather l n t.action t.branch t.number x v)

    spent_match : (m : Matched) → spend_if t (match_in j m) ≡ match_in (gather_entry ∷ j) m
    unfolding wrote granted grant_of gathered
    spent_match m = ap (λ b. record {
      line = m.line;
      number = m.number;
      attempt = m.attempt;
      exit = m.exit;
      refused = m.refused;
      spent = b;
    }) (or_assoc (same_attempt t m.attempt)
        (gathered j m.attempt) (is_faulty (wrote j m.attempt) || granted j m.attempt.action))

    recent_stays : (w : ℕ) (b : Bool) → cond (b && false) []
        (and_more (cond b None None) (recent j w)) ≡ recent j w
    recent_stays w true = refl
    recent_stays w false = refl

    recent_after : (w : ℕ) → recent (gather_entry ∷ j) w ≡ recent j w
    unfolding recent
    recent_after w = recent_stays w (lane / 2 == w)

    abbrev rec : List Match → ArrayVec Match
    rec xs = record { items = xs }

    spent_row_is : (w : ℕ) (b : Bool) → option_map (spent_row t)
        (cond b (Some (rec (reverse (map (match_in j) (recent j w))))) None) ≡ cond b
        (Some (rec (reverse (map (match_in (gather_entry ∷ j)) (recent (gather_entry ∷ j) w)))))
        None
    spent_row_is w false = refl
    spent_row_is w true =
        ap (λ xs. Some (rec xs)) (map_reverse (spend_if t) (map (match_in j) (recent j w))
        ∙ ap reverse (map_map (spend_if t) (match_in j) (recent j w)
        ∙ map_matches seats j gather_entry (λ m. spend_if t (match_in j m))
        (match_in (gather_entry ∷ j)) (recent j w) spent_match))
        ∙ ap (λ xs. Some (rec (reverse (map (match_in (gather_entry ∷ j)) xs))))
        (sym (recent_after w))

    spent_is : (w : ℕ) → slice_get (with_spent s.matches t) w ≡ matches_in seats (gather_entry ∷ j) w
    unfolding matches_in
    spent_is w = get_map (spent_row t) s.matches w ∙ ap (option_map (spent_row t)) (st.matches w)
        ∙ spent_row_is w (nat_lt w seats)

    pub gather_stands : Asked p j (lane / 2) (reply.Gather l n t.action t.branch t.number x v)
        → Stands p seats (noted_after (record s { matches = with_spent s.matches t }) lane call.Ask
        (reply.Gather l n t.action t.branch t.number x v)) (gather_entry ∷ j)
    gather_stands is = own_stands p seats s j gather_entry st
        (record { scripted = may.scripted; told = is; kept = refl }) may.berth refl refl refl refl refl refl
        (quiet_greetings seats j gather_entry refl refl s.greetings st.greetings) s.last
        (with_spent s.matches t) (last_kept seats j gather_entry
        (gather_quiet seats j lane l n t x v) s.last st.last) spent_is

  -- ---- Cancel

  module _ (l : ℕ) (n : ℤ) where
    abbrev cancel_entry : Entry
    cancel_entry = asked lane (reply.Cancel l n)

    cancel_same : SameActions j (cancel_entry ∷ j)
    cancel_same = quiet_actions cancel_entry j refl refl

    pub cancel_stands : Asked p j (lane / 2) (reply.Cancel l n)
        → Stands p seats (noted_after (carried s (lane / 2) (choice.Cancel l n)) lane call.Ask
        (reply.Cancel l n)) (cancel_entry ∷ j)
    unfolding halted
    cancel_stands is = record {
      plan = st.plan;
      sound = st.sound;
      lawful = (st.lawful, record { scripted = may.scripted; told = is; kept = refl });
      seated = (st.seated, may.berth);
      few = st.few;
      pool = quiet_kept p seats s.pool j cancel_entry st.pool refl refl;
      requests = asks-sent.cancels_kept j lane l n p s.requests st.requests;
      cancels = marks.cancels_kept j lane l n p s.cancels st.cancels;
      ready = ready_kept p j cancel_entry cancel_same refl s.ready st.ready;
      race = race_kept p j cancel_entry cancel_same refl s.race st.race;
      attempts = attempts_kept p j cancel_entry cancel_same refl s.attempts st.attempts;
      lanes = lanes_kept seats j cancel_entry s.lanes st.lanes;
      greetings = quiet_greetings seats j cancel_entry refl refl s.greetings st.greetings;
      last = last_kept seats j cancel_entry (cancel_quiet seats j lane l n) s.last st.last;
      matches = matches_kept seats j cancel_entry (cancel_spends seats j lane l n) s.matches st.matches;
      halted = st.halted;
    }

  -- ---- Launch

  module _ (g : ℕ) (t : Attempt) (next : IsNextOf p j g t)
      (facts : JournalFacts p j) where
    abbrev launch_reply : Reply
    launch_reply = reply.Launch (line_count j) t.action t.branch t.number

    abbrev launch_entry : Entry
    launch_entry = asked lane launch_reply

    free : IsFresh j (line_count j)
    free = fresh p j (line_count j) st.lawful (omega arith)

    module _ (is : Asked p j (lane / 2) launch_reply) where
      joins : LawfulEntry p j launch_entry
      joins = record { scripted = may.scripted; told = is; kept = refl }

      begins : BeginsNext j t
      begins = (begin_in_order p (launch_entry ∷ j) ((st.lawful, joins))).1

      going : ended j t ≡ false
      going = facts.unbegun_goes t begins.unbegun

      new : IsNew p j t
      new =
          record {
            unbegun = begins.unbegun;
            going = going;
            wish =
                (queued_is p j t.action t.branch next.action next.waiting).wish;
          }

      launch_same : SameActions j (launch_entry ∷ j)
      launch_same = launch_actions p seats s.pool j lane t st.pool free new

      launch_spends : SpendsNone seats j launch_entry
      unfolding wrote granted grant_of gathered
      launch_spends = record { no_send = refl; no_match = refl; same = λ u. refl }

      row_new : row_of (launch_entry ∷ j) (Some (line_count j)) ≡ row_by (Some t) false None None
      unfolding launch_of was_taken line_cause fed_of sends wrote
      row_new =
          let here : (line_count j == line_count j) ≡ true =
          eq-eqb (line_count j) (line_count j) refl in
          rw (here, free.take, free.break, free.send) refl

      row_old : (v : ℕ) (o : Option ℕ) → OfBerth j o v → row_of (launch_entry ∷ j) o ≡ row_of j o
      unfolding was_taken line_cause fed_of sends wrote
      row_old v None own = refl
      row_old v (Some l) own = ap (λ o. row_by (option_map (λ x. x.1) o) (was_taken j l)
          (line_cause j l) (fed_of j l)) (launch_stays launch_entry j l refl own.below)

      last_by : (v : ℕ) (b known : Bool) → OfBerth j (last_line j v) v
          → cond b (option_map (set_launched t) (cond known (Some (row_of j (last_line j v))) None))
          (cond known (Some (row_of j (last_line j v))) None)
          ≡ cond known (Some (row_of (launch_entry ∷ j) (or_else (cond b (Some (line_count j)) None)
          (last_line j v)))) None
      last_by v true true own = ap Some (sym row_new)
      last_by v true false own = refl
      last_by v false true own = ap Some (sym (row_old v (last_line j v) own))
      last_by v false false own = refl

      last_is : (v : ℕ) → slice_get (update (set_launched t) s.last (lane / 2)) v ≡ last_in seats
          (launch_entry ∷ j) v
      unfolding last_in last_line
      last_is v =
          get_update (set_launched t) s.last (lane / 2) v
          ∙ ap (λ (o : Option LastLine). cond (lane / 2 == v) (option_map (set_launched t) o) o)
          (st.last v)
          ∙ last_by v (lane / 2 == v) (nat_lt v seats) (last_line_own v j
          (lines_named p j st.lawful))

      pub launch_stands : Stands p seats (noted_after (launched_for s (lane / 2) t) lane call.Ask
          launch_reply) (launch_entry ∷ j)
      unfolding halted
      launch_stands = record {
        plan = st.plan;
        sound = st.sound;
        lawful = (st.lawful, joins);
        seated = (st.seated, may.berth);
        few = st.few;
        pool = subst (λ q. pools.Stands p seats (rows.with_launch s.pool (lane / 2)
            (kind_for q t)) (launch_entry ∷ j)) (sym st.plan)
            (launches_kept p seats s.pool j lane t st.pool free new);
        requests = asks.others p s.requests j launch_entry st.requests refl refl;
        cancels = marks.others p s.cancels j launch_entry st.cancels refl refl refl;
        ready = queues.begun p j launch_entry t (record {
          begins = refl;
          next = begins;
          going = going;
          same = launch_same;
        }) s.ready st.ready;
        race = races.others p s.race j (launch_entry ∷ j) st.race
            (record { grant = launch_same.grant; commit = launch_same.commit });
        attempts = tallies.begins_count p s.attempts j launch_entry t st.attempts refl begins going
            launch_same.ended_too;
        lanes = lanes_kept seats j launch_entry s.lanes st.lanes;
        greetings = launch_greetings seats j lane (line_count j) t free s.greetings st.greetings;
        last = last_is;
        matches = matches_kept seats j launch_entry launch_spends s.matches st.matches;
        halted = st.halted;
      }
