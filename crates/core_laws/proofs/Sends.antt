-- What a Send makes of a state that stands for a journal.
use Rattle.std.proofs.Common.{◌≡◌, ℕ, ◌/◌, ◌<◌, ◌==◌, nat_lt, Bool, true, false, ◌&&◌, not, cond, List, [], ◌∷◌, map, reverse, Option, Some, None, is_some, option_map, refl, ap, sym, subst, ◌∙◌, arith}
use Rattle.std.specs.Prelude.{slice_get, ℤ, pos}
use Rattle.std.specs.List.{find}
use Rattle.std.proofs.lemmas.Bool.{eqb-true, and_parts}
use Rattle.arrayvec.specs.ArrayVec.{ArrayVec}
use Rattle.run_plan.specs.declared.plan.Branch.{Branch}
use Rattle.run_plan.specs.declared.plan.Plan.{Plan}
use Rattle.exec_journal.specs.declared.attempt.Attempt.{Attempt}
use Rattle.exec_journal.specs.Entry.{Entry}
use Rattle.exec_journal.specs.declared.call.Call.TheVariants as call
use Rattle.exec_journal.specs.declared.reply.Reply.{Reply}
use Rattle.exec_journal.specs.declared.reply.Reply.TheVariants as reply
use Rattle.exec_journal.specs.Entries.{Request, same_branch}
use Rattle.exec_journal.specs.Facts.{SameActions, BeginsNext, Begins, OfBerth, IsOfBerth}
use Rattle.list_lemmas.specs.Options.{or_else, and_more}
use Rattle.exec_journal.specs.Attempts.{attempt, ended}
use Rattle.exec_journal.specs.Rules as r
use Rattle.exec_journal.specs.Rules.{gathered}
use Rattle.request_table.specs.Entries.{IsNextSend, IsNewRequest}
use Rattle.request_table.specs.Rows.{line_room, next_number}
use Rattle.cancel_rules.specs.Marks as mark-rows
use Rattle.cancel_rules.specs.Stands as mark-stands
use Rattle.exec_journal.specs.Settled.{bound}
use Rattle.exec_journal.specs.Words.{live, started, has_ended, was_sent, halted, last_line, launch_of, line_cause, was_taken, sends, wrote, granted, grant_of, says_feed_fault}
use Rattle.exec_journal.proofs.Begins.{attempt_begun, attempt_other, same_branch_eq, begin_in_order}
use Rattle.exec_journal.proofs.Lines.{last_line_own, lines_named}
use Rattle.list_lemmas.proofs.Updates.{get_update}
use Rattle.worker_pool.proofs.Sent.{sends_kept, bound_sends_kept, send_actions, unwritten}
use Rattle.worker_pool.proofs.Lives.{ended_broke}
use Rattle.worker_pool.proofs.Once.{sent_to}
use Rattle.worker_pool.specs.Entries.{IsSentTo}
use Rattle.request_table.proofs.Sent as asks-sent
use Rattle.cancel_rules.proofs.Followed as marks
use Rattle.ready_order.proofs.Followed as queues
use Rattle.race_core.proofs.Kept as races
use Rattle.retry_rules.proofs.Counted as tallies
use Rattle.core_tables.specs.declared.matches.Match.{Match}
use Rattle.core_state.specs.declared.state.State.{State}
use Rattle.table_laws.specs.Moments.{JournalFacts}
use Rattle.call_laws.specs.Moments.{BranchOf}
use Rattle.core_tables.specs.Last.{last_in, row_of, row_by, fed_of}
use Rattle.core_state.specs.Machine.{sent}
use Rattle.core_tables.specs.Matches.{match_in, matches_in, with_clear, on_row}
use Rattle.call_laws.specs.Matches.{Matched, recent}
use Rattle.core_state.specs.Noted.{noted_after}
use Rattle.core_laws.specs.Stands.{Stands, MayCall}
use Rattle.core_laws.proofs.Own.{lanes_kept, map_matches}
use Rattle.core_laws.proofs.Greeted.{quiet_greetings}
use Rattle.exec_journal.specs.Lawful.{LawfulEntry, Asked}
use Rattle.exec_journal.specs.Seated.{group_on, line_kind}

abbrev asked : ℕ → Reply → Entry
asked lane x = record { lane = lane; call = call.Ask; reply = x }

not_true : (b : Bool) → not b ≡ true → b ≡ false
not_true true h = absurd (cc)
not_true false h = refl

find_same : (f g : Request → Bool) (xs : List Request) → ((x : Request) → f x ≡ g x)
    → find f xs ≡ find g xs
find_same f g [] h = refl
find_same f g (x ∷ xs) h = λ i. cond (h x i) (Some x) (find_same f g xs h i)

module _ (p : Plan) (seats : ℕ) (s : State) (j : List Entry) (lane l : ℕ) (t : Attempt) (st : Stands p seats s j)
    (facts : JournalFacts p j) (may : MayCall p seats j lane call.Ask)
    (here : last_line j (lane / 2) ≡ Some l) (alive : live j l ≡ true) where
  abbrev number : ℤ
  number = r.number_of j (line_kind p j l) l

  abbrev send_reply : Reply
  send_reply = reply.Send l number t.action t.branch t.number

  abbrev e : Entry
  e = asked lane send_reply

  running : has_ended j l ≡ false
  unfolding live
  running = by (has_ended j l) refl
    where
      unbroken : is_some (line_cause j l) ≡ false
      unbroken = not_true _ (and_parts (not (is_some (line_cause j l))) _
          (and_parts (started j l) _ alive).1).0

      by : (b : Bool) → has_ended j l ≡ b → has_ended j l ≡ false
      by false h = h
      by true h = absurd (let x = ended_broke j l h in let y = unbroken in cc)

  own : IsOfBerth j l (lane / 2)
  own = subst (λ (o : Option ℕ). OfBerth j o (lane / 2)) here
      (last_line_own (lane / 2) j (lines_named p j st.lawful))

  in_room : l < line_room p
  in_room = let below = own.below in let fit = facts.lines_fit in omega arith

  module _ (is : Asked p j (lane / 2) send_reply) (unsent : was_sent j t ≡ false)
      (group : BranchOf p t (group_on p j l)) where
    joins : LawfulEntry p j e
    joins = record { scripted = may.scripted; told = is; kept = refl }

    begins : Begins j None (Some (record { line = l; number = number; attempt = t }))
    begins = (begin_in_order p (e ∷ j) ((st.lawful, joins))).1

    to : IsSentTo j t l
    to = sent_to j (record { line = l; number = number; attempt = t })
        (begin_in_order p j st.lawful) begins running (facts.unsent_unanswered t unsent)

    new : IsNewRequest j l t
    new = record {
      unsent = unsent;
      unanswered = facts.unsent_unanswered t unsent;
      unwritten = unwritten j t unsent;
      running = running;
    }

    same : SameActions j (e ∷ j)
    same = send_actions p seats s.pool j lane l number t st.pool to

    -- ---- what is kept of the last lines

    fed_by : (k : ℕ) (b : Bool) → option_map (λ (x : Request). x.attempt)
        (find (λ x. says_feed_fault (wrote (e ∷ j) x.attempt))
        (and_more (cond b (Some (record { line = l; number = number; attempt = t })) None)
        (sends j k)))
        ≡ option_map (λ (x : Request). x.attempt) (find (λ x. says_feed_fault (wrote j x.attempt))
        (sends j k))
    unfolding wrote
    fed_by k true = let none = unwritten j t unsent in rw none refl
    fed_by k false = refl

    row_same : (o : Option ℕ) → row_of (e ∷ j) o ≡ row_of j o
    unfolding launch_of was_taken line_cause fed_of sends
    row_same None = refl
    row_same (Some k) = ap (row_by (option_map (λ x. x.1) (launch_of j k)) (was_taken j k)
        (line_cause j k)) (fed_by k (l == k))

    no_line : (w : ℕ) (b : Bool) → or_else (cond b None None) (last_line j w) ≡ last_line j w
    no_line w true = refl
    no_line w false = refl

    last_is : (w : ℕ) → slice_get s.last w ≡ last_in seats (e ∷ j) w
    unfolding last_in last_line
    last_is w = st.last w ∙ ap (λ x. cond (nat_lt w seats) (Some x) None)
        (sym (row_same (last_line j w)) ∙ ap (row_of (e ∷ j)) (sym (no_line w (lane / 2 == w))))

    -- ---- the berth's matches

    match_same : (m : Matched) → match_in (e ∷ j) m ≡ match_in j m
    unfolding wrote granted grant_of gathered
    match_same m = refl

    abbrev rec : List Match → ArrayVec Match
    rec xs = record { items = xs }

    cleared : (w : ℕ) (b known : Bool) → cond b (option_map (on_row (λ ms. []))
        (cond known (Some (rec (reverse (map (match_in j) (recent j w))))) None))
        (cond known (Some (rec (reverse (map (match_in j) (recent j w))))) None)
        ≡ cond known (Some (rec (reverse (map (match_in (e ∷ j))
        (cond (b && true) [] (and_more (cond b None None) (recent j w))))))) None
    cleared w true true = refl
    cleared w true false = refl
    cleared w false true = ap (λ xs. Some (rec (reverse xs)))
        (sym (map_matches seats j e (match_in (e ∷ j)) (match_in j) (recent j w) match_same))
    cleared w false false = refl

    matches_is : (w : ℕ) → slice_get (with_clear s.matches (lane / 2)) w ≡ matches_in seats (e ∷ j) w
    unfolding matches_in recent
    matches_is w =
        get_update (on_row (λ ms. [])) s.matches (lane / 2) w
        ∙ ap (λ (o : Option (ArrayVec Match)). cond (lane / 2 == w)
        (option_map (on_row (λ ms. [])) o) o) (st.matches w)
        ∙ cleared w (lane / 2 == w) (nat_lt w seats)

    next : IsNextSend p j (group_on p j l) l number t.action t.branch t.number
    next = record {
      number = refl;
      group = group;
      earlier = facts.numbered (lane / 2) l here;
      new = new;
    }

    number_is : pos (next_number s.requests l t.action t.branch) ≡ number
    number_is = asks-sent.next_number_is p s.requests j (group_on p j l) l t.action t.branch st.requests in_room
        group (facts.numbered (lane / 2) l here)

    -- ---- what was bound to the line

    module _ (was : bound p j l ≡ Some t) (latest : t.number ≡ attempt j t.action t.branch) where
      none_begins : (a : ℕ) (b : Branch) → attempt (e ∷ j) a b ≡ attempt j a b
      none_begins a b = by ((t.action == a) && same_branch t.branch b) refl
        where
          by : (x : Bool) → ((t.action == a) && same_branch t.branch b) ≡ x
              → attempt (e ∷ j) a b ≡ attempt j a b
          by true h =
              let parts = and_parts (t.action == a) _ h in
              let action = eqb-true t.action a parts.0 in
              let branch = same_branch_eq t.branch b parts.1 in
              attempt_begun e j a b t refl h ∙ latest ∙ λ i. attempt j (action i) (branch i)
          by false h = attempt_other e j a b (ap (λ c. cond c (Some t.number) None) h)

      pub bound_stands : Stands p seats (noted_after (sent s (lane / 2) l t true) lane call.Ask
          send_reply) (e ∷ j)
      unfolding halted
      bound_stands = record {
        plan = st.plan;
        sound = st.sound;
        lawful = (st.lawful, joins);
        seated = (st.seated, may.berth);
        few = st.few;
        pool = bound_sends_kept p seats s.pool j lane l number t st.pool to was;
        requests = asks-sent.sends_kept p s.requests j lane (group_on p j l) l number t.action t.branch t.number
            st.requests in_room next;
        cancels = subst (λ n. mark-stands.Stands p (mark-rows.with_sent s.cancels l n t.action)
            (e ∷ j)) (sym number_is) (marks.sends_kept p s.cancels j lane l number t.action t.branch
            t.number st.cancels new);
        ready = queues.others p s.ready j (e ∷ j) st.ready
            (record { actions = same; none_begins = none_begins });
        race = races.others p s.race j (e ∷ j) st.race (record {
          grant = same.grant;
          commit = same.commit;
        });
        attempts = tallies.others_count p s.attempts j e st.attempts none_begins same.ended_too;
        lanes = lanes_kept seats j e s.lanes st.lanes;
        greetings = quiet_greetings seats j e refl refl s.greetings st.greetings;
        last = last_is;
        matches = matches_is;
        halted = st.halted;
      }

    -- ---- a new attempt

    module _ (none : bound p j l ≡ None) (fresh_one : BeginsNext j t) where
      going : ended j t ≡ false
      going = facts.unbegun_goes t fresh_one.unbegun

      pub new_stands : Stands p seats (noted_after (sent s (lane / 2) l t false) lane call.Ask send_reply)
          (e ∷ j)
      unfolding halted
      new_stands = record {
        plan = st.plan;
        sound = st.sound;
        lawful = (st.lawful, joins);
        seated = (st.seated, may.berth);
        few = st.few;
        pool = sends_kept p seats s.pool j lane l number t st.pool to none;
        requests = asks-sent.sends_kept p s.requests j lane (group_on p j l) l number t.action t.branch t.number
            st.requests in_room next;
        cancels = subst (λ n. mark-stands.Stands p (mark-rows.with_sent s.cancels l n t.action)
            (e ∷ j)) (sym number_is) (marks.sends_kept p s.cancels j lane l number t.action t.branch
            t.number st.cancels new);
        ready = queues.begun p j e t (record {
          begins = refl;
          next = fresh_one;
          going = going;
          same = same;
        }) s.ready st.ready;
        race = races.others p s.race j (e ∷ j) st.race (record {
          grant = same.grant;
          commit = same.commit;
        });
        attempts = tallies.begins_count p s.attempts j e t st.attempts refl fresh_one going
            same.ended_too;
        lanes = lanes_kept seats j e s.lanes st.lanes;
        greetings = quiet_greetings seats j e refl refl s.greetings st.greetings;
        last = last_is;
        matches = matches_is;
        halted = st.halted;
      }
