-- What a Claim that isn't granted, and a Committed, make of a state that stands for a journal; and
-- the reply to a Claim.
use Rattle.std.proofs.Common.{◌≡◌, ℕ, ◌<◌, nat_lt, Bool, true, false, ◌&&◌, ◌||◌, not, cond, List, [], ◌∷◌, length, Option, Some, None, is_some, refl, ap, sym, subst, ◌∙◌}
use Rattle.run_plan.specs.declared.plan.Branch.{Branch}
use Rattle.run_plan.specs.declared.plan.Plan.{Plan}
use Rattle.exec_journal.specs.declared.attempt.Attempt.{Attempt}
use Rattle.exec_journal.specs.Entry.{Entry}
use Rattle.exec_journal.specs.declared.call.Call.TheVariants as call
use Rattle.exec_journal.specs.declared.call.CommitEnd.{CommitEnd}
use Rattle.exec_journal.specs.declared.call.CommitEnd.TheVariants as commit
use Rattle.exec_journal.specs.declared.call.Found.{Found}
use Rattle.exec_journal.specs.declared.call.Found.TheVariants as found
use Rattle.exec_journal.specs.declared.reply.Reply.{Reply}
use Rattle.exec_journal.specs.declared.reply.Reply.TheVariants as reply
use Rattle.exec_journal.specs.Attempts.{attempt, ended, fault_at, found_cause}
use Rattle.exec_journal.specs.Entries.{attempt_of, same_attempt, same_branch}
use Rattle.exec_journal.specs.Facts.{SameActions, begun}
use Rattle.exec_journal.specs.Rules as r
use Rattle.exec_journal.specs.Rules.{gathered}
use Rattle.exec_journal.specs.Words.{halted, was_sent, has_ended, answered, line_cause, wrote, granted, grant_of, commit_of}
use Rattle.exec_journal.proofs.Begins.{attempts_in_order, attempt_other, bound_is, same_attempt_eq}
use Rattle.exec_journal.proofs.Quiet.{ended_same}
use Rattle.exec_journal.proofs.Ruled.{by_bool}
use Rattle.worker_pool.specs.Entries.{WantedStays, AreFaulted}
use Rattle.worker_pool.proofs.Bound.{faults_unbind}
use Rattle.worker_pool.proofs.Kept.{aside_kept}
use Rattle.worker_pool.proofs.Words.{aside_unbinds, over_same, granted_same, same_actions}
use Rattle.request_table.proofs.Kept as asks
use Rattle.cancel_rules.proofs.Followed as marks
use Rattle.race_core.specs.Entries as race-entries
use Rattle.race_core.specs.Stands as race-stands
use Rattle.race_core.proofs.Kept as races
use Rattle.ready_order.specs.Entries as queue-entries
use Rattle.ready_order.specs.Queue as queue
use Rattle.ready_order.specs.Stands as queue-stands
use Rattle.ready_order.proofs.Followed as queues
use Rattle.retry_rules.proofs.Counted as tallies
use Rattle.core_state.specs.declared.state.State.{State}
use Rattle.table_laws.specs.Moments.{JournalFacts, Uses}
use Rattle.core_state.specs.Machine.{with_end, states_after, committed_with, claim_reply_by, found_reply}
use Rattle.core_state.specs.Noted.{noted_after}
use Rattle.core_laws.specs.Premises.{EndsTogether}
use Rattle.core_laws.specs.Stands.{Stands, MayCall}
use Rattle.core_laws.proofs.Own.{lanes_kept, last_kept, matches_kept, IsQuiet, SpendsNone, ready_kept, race_kept, attempts_kept}
use Rattle.core_laws.proofs.Several.{several_counts, several_states, one_test}
use Rattle.core_laws.proofs.Greeted.{quiet_greetings}
use Rattle.exec_journal.specs.Lawful.{LawfulEntry, plain_reply}

-- ---- Lost

module _ (p : Plan) (seats : ℕ) (s : State) (j : List Entry) (lane a n : ℕ) (b : Branch) (f : Found)
    (st : Stands p seats s j) (may : MayCall p seats j lane (call.Claim a b n f)) where
  module _ (is : reply.Lost ≡ plain_reply p j lane (call.Claim a b n f)) where
    abbrev lost_entry : Entry
    lost_entry = record { lane = lane; call = call.Claim a b n f; reply = reply.Lost }

    lost_quiet : IsQuiet seats j lost_entry
    unfolding wrote
    lost_quiet = record {
      no_launch = refl;
      no_send = refl;
      no_take = λ m. refl;
      no_break = λ m. refl;
      no_feed = λ u. refl;
    }

    lost_spends : SpendsNone seats j lost_entry
    unfolding wrote granted grant_of gathered
    lost_spends = record { no_send = refl; no_match = refl; same = λ u. refl }

    none_ends : (u : Attempt) → ended (lost_entry ∷ j) u ≡ ended j u
    unfolding has_ended answered wrote line_cause
    none_ends u = ended_same lost_entry j u (over_same lost_entry j u refl refl
        (λ l. refl) refl refl (λ l h. refl)) (granted_same lost_entry j u.action refl)

    lost_same : SameActions j (lost_entry ∷ j)
    lost_same = same_actions lost_entry j none_ends refl (λ c d. refl)

    pub lost_stands : Stands p seats (noted_after s lane (call.Claim a b n f) reply.Lost) (lost_entry ∷ j)
    unfolding halted
    lost_stands = record {
      plan = st.plan;
      sound = st.sound;
      lawful = (st.lawful, record { scripted = may.scripted; told = is; kept = refl });
      seated = (st.seated, may.berth);
      few = st.few;
      pool = aside_kept p seats s.pool j lost_entry st.pool refl []
          (aside_unbinds lost_entry j refl p lost_same);
      requests = asks.others p s.requests j lost_entry st.requests refl refl;
      cancels = marks.others p s.cancels j lost_entry st.cancels refl refl refl;
      ready = ready_kept p j lost_entry lost_same refl s.ready st.ready;
      race = race_kept p j lost_entry lost_same refl s.race st.race;
      attempts = attempts_kept p j lost_entry lost_same refl s.attempts st.attempts;
      lanes = lanes_kept seats j lost_entry s.lanes st.lanes;
      greetings = quiet_greetings seats j lost_entry refl refl s.greetings st.greetings;
      last = last_kept seats j lost_entry lost_quiet s.last st.last;
      matches = matches_kept seats j lost_entry lost_spends s.matches st.matches;
      halted = st.halted;
    }

  -- ---- AgainLater, Dropped

  abbrev said : Bool → Reply
  said true = reply.AgainLater
  said false = reply.Dropped

  abbrev entry : Bool → Entry
  entry again = record { lane = lane; call = call.Claim a b n f; reply = said again }

  quiet : (again : Bool) → IsQuiet seats j (entry again)
  unfolding wrote
  quiet true = record {
    no_launch = refl;
    no_send = refl;
    no_take = λ m. refl;
    no_break = λ m. refl;
    no_feed = λ u. refl;
  }
  quiet false = record {
    no_launch = refl;
    no_send = refl;
    no_take = λ m. refl;
    no_break = λ m. refl;
    no_feed = λ u. refl;
  }

  spends : (again : Bool) → SpendsNone seats j (entry again)
  unfolding wrote granted grant_of gathered
  spends true = record { no_send = refl; no_match = refl; same = λ u. refl }
  spends false = record { no_send = refl; no_match = refl; same = λ u. refl }

  fault_is : (again : Bool) (u : Attempt) → fault_at u j (entry again) ≡ cond
      (same_attempt (attempt_of a b n) u) (found_cause f) None
  fault_is true u = refl
  fault_is false u = refl

  same_grant : (again : Bool) (c : ℕ) → grant_of (entry again ∷ j) c ≡ grant_of j c
  unfolding grant_of
  same_grant true c = refl
  same_grant false c = refl

  same_commit : (again : Bool) (c : ℕ) (d : Branch) → commit_of (entry again ∷ j) c d
      ≡ commit_of j c d
  unfolding commit_of
  same_commit true c d = refl
  same_commit false c d = refl

  none_begins : (again : Bool) (c : ℕ) (d : Branch) → attempt (entry again ∷ j) c d ≡ attempt j c d
  none_begins true c d = attempt_other (entry true) j c d refl
  none_begins false c d = attempt_other (entry false) j c d refl

  -- what is bound wasn't sent, so it isn't what is claimed
  none_faulted : (again : Bool) → was_sent j (attempt_of a b n) ≡ true
      → AreFaulted p j (entry again) []
  none_faulted again sent = record {
    each = λ l u was. sym (ap is_some (fault_is again u
        ∙ ap (λ x. cond x (found_cause f) None) (other u (bound_is p j l u was).unsent)));
  }
    where
      other : (u : Attempt) → was_sent j u ≡ false → same_attempt (attempt_of a b n) u ≡ false
      other u unsent = by_bool (same_attempt (attempt_of a b n) u)
          (λ x. same_attempt (attempt_of a b n) u ≡ x → x ≡ false)
          (λ _ h. absurd (let k = ap (was_sent j) (same_attempt_eq (attempt_of a b n) u h) in cc))
          (λ _ h. refl) refl

  module _ (facts : JournalFacts p j) (sent : was_sent j (attempt_of a b n) ≡ true)
      (start : begun j (attempt_of a b n) ≡ true) (uses : Uses p (attempt_of a b n))
      (free : granted j a ≡ false) where
    abbrev t : Attempt
    t = attempt_of a b n

    together : (again : Bool) → ((u : Attempt) → ended (entry again ∷ j) u ≡
        (ended j u || same_attempt t u)) → EndsTogether j (entry again) (t ∷ [])
    together again ends = record {
      these = λ u. ends u ∙ ap (λ x. ended j u || x) (sym
          (ap (λ x. same_attempt t u && not x) free ∙ and_true (same_attempt t u))
          ∙ one_test j t u);
      none_begins = none_begins again;
      grant = same_grant again;
      commit = same_commit again;
    }
      where
        and_true : (y : Bool) → (y && true) ≡ y
        and_true true = refl
        and_true false = refl

    refused : (again : Bool) → LawfulEntry p j (entry again) → WantedStays p j (entry again)
        → ((u : Attempt) → ended (entry again ∷ j) u ≡ (ended j u || same_attempt t u))
        → (queue-stands.Stands p (states_after s.plan s.race s.attempts s.ready t)
        (entry again ∷ j)) × (race-stands.Stands p s.race (entry again ∷ j))
    refused again legal stays ends = (
      subst (λ (q : Plan). queue-stands.Stands p (states_after q s.race s.attempts s.ready t)
          (entry again ∷ j)) (sym st.plan)
          (several_states p st.sound.least s.race j (entry again) (t ∷ [])
          (record {
            order = attempts_in_order p j st.lawful;
            unbegun = facts.unbegun_goes;
            won = st.race;
          }) ((start, uses), tt) (together again ends) s.attempts st.attempts
          s.ready st.ready),
      races.others p s.race j (entry again ∷ j) st.race (record {
        grant = same_grant again;
        commit = same_commit again;
      }),
    )

    pub again_stands : reply.AgainLater ≡ plain_reply p j lane (call.Claim a b n f)
        → WantedStays p j (entry true) → ((u : Attempt) → ended (entry true ∷ j) u ≡
        (ended j u || same_attempt t u))
        → Stands p seats (noted_after (with_end s t) lane (call.Claim a b n f) reply.AgainLater)
        (entry true ∷ j)
    unfolding halted
    again_stands is stays ends = record {
      plan = st.plan;
      sound = st.sound;
      lawful = (st.lawful, record { scripted = may.scripted; told = is; kept = refl });
      seated = (st.seated, may.berth);
      few = st.few;
      pool = aside_kept p seats s.pool j (entry true) st.pool refl []
          (faults_unbind p j (entry true) refl refl stays [] (none_faulted true sent));
      requests = asks.others p s.requests j (entry true) st.requests refl refl;
      cancels = marks.others p s.cancels j (entry true) st.cancels refl refl refl;
      ready = (refused true (record { scripted = may.scripted; told = is; kept = refl }) stays ends).0;
      race = (refused true (record { scripted = may.scripted; told = is; kept = refl }) stays ends).1;
      attempts = several_counts p st.sound.least s.race j (entry true) (t ∷ [])
          (record {
            order = attempts_in_order p j st.lawful;
            unbegun = facts.unbegun_goes;
            won = st.race;
          }) ((start, uses), tt) (together true ends) s.attempts st.attempts s.ready
          st.ready;
      lanes = lanes_kept seats j (entry true) s.lanes st.lanes;
      greetings = quiet_greetings seats j (entry true) refl refl s.greetings st.greetings;
      last = last_kept seats j (entry true) (quiet true) s.last st.last;
      matches = matches_kept seats j (entry true) (spends true) s.matches st.matches;
      halted = st.halted;
    }

    pub dropped_stands : reply.Dropped ≡ plain_reply p j lane (call.Claim a b n f)
        → WantedStays p j (entry false) → ((u : Attempt) → ended (entry false ∷ j) u ≡
        (ended j u || same_attempt t u))
        → Stands p seats (noted_after (with_end s t) lane (call.Claim a b n f) reply.Dropped)
        (entry false ∷ j)
    unfolding halted
    dropped_stands is stays ends = record {
      plan = st.plan;
      sound = st.sound;
      lawful = (st.lawful, record { scripted = may.scripted; told = is; kept = refl });
      seated = (st.seated, may.berth);
      few = st.few;
      pool = aside_kept p seats s.pool j (entry false) st.pool refl []
          (faults_unbind p j (entry false) refl refl stays [] (none_faulted false sent));
      requests = asks.others p s.requests j (entry false) st.requests refl refl;
      cancels = marks.others p s.cancels j (entry false) st.cancels refl refl refl;
      ready = (refused false (record { scripted = may.scripted; told = is; kept = refl }) stays ends).0;
      race = (refused false (record { scripted = may.scripted; told = is; kept = refl }) stays ends).1;
      attempts = several_counts p st.sound.least s.race j (entry false) (t ∷ [])
          (record {
            order = attempts_in_order p j st.lawful;
            unbegun = facts.unbegun_goes;
            won = st.race;
          }) ((start, uses), tt) (together false ends) s.attempts st.attempts s.ready
          st.ready;
      lanes = lanes_kept seats j (entry false) s.lanes st.lanes;
      greetings = quiet_greetings seats j (entry false) refl refl s.greetings st.greetings;
      last = last_kept seats j (entry false) (quiet false) s.last st.last;
      matches = matches_kept seats j (entry false) (spends false) s.matches st.matches;
      halted = st.halted;
    }

  -- ---- the reply

  module _ (known : a < length p.actions) (apart : (x : Attempt × Found) → grant_of j a ≡ Some x
      → same_branch x.0.branch b ≡ false) where
    found_is : (g : Found) → found_reply s (attempt_of a b n) g ≡ r.by_found p n g
    found_is (found.Files fs) = refl
    found_is (found.Exit m) = refl
    found_is (found.Missing k) = ap (λ (q : Plan). cond
        (nat_lt n q.limit) reply.AgainLater reply.Dropped) st.plan
    found_is found.RoomFault = ap (λ (q : Plan). cond (nat_lt n q.limit) reply.AgainLater
        reply.Dropped) st.plan
    found_is found.Refused = ap (λ (q : Plan). cond (nat_lt n q.limit) reply.AgainLater
        reply.Dropped) st.plan

    won_by : (o : Option (Attempt × Found)) → grant_of j a ≡ o
        → is_some (race-stands.branch_in o) ≡ r.is_other b o
    won_by None h = refl
    won_by (Some x) h = sym (ap not (apart x h))

    pub claim_is : claim_reply_by s (attempt_of a b n) f ≡ plain_reply p j lane (call.Claim a b n f)
    claim_is = λ i. cond ((ap is_some (races.winner_is p s.race j a st.race known)
        ∙ won_by (grant_of j a) refl) i) reply.Lost (found_is f i)

-- ---- Committed

module _ (p : Plan) (seats : ℕ) (s : State) (j : List Entry) (lane a : ℕ) (b : Branch) (how : CommitEnd)
    (st : Stands p seats s j) (may : MayCall p seats j lane (call.Committed a b how)) where
  abbrev commit_entry : Entry
  commit_entry = record { lane = lane; call = call.Committed a b how; reply = reply.Noted }

  commit_quiet : IsQuiet seats j commit_entry
  unfolding wrote
  commit_quiet = record {
    no_launch = refl;
    no_send = refl;
    no_take = λ m. refl;
    no_break = λ m. refl;
    no_feed = λ u. refl;
  }

  commit_spends : SpendsNone seats j commit_entry
  unfolding wrote granted grant_of gathered
  commit_spends = record { no_send = refl; no_match = refl; same = λ u. refl }

  commit_ends : (u : Attempt) → ended (commit_entry ∷ j) u ≡ ended j u
  unfolding has_ended answered wrote line_cause
  commit_ends u = ended_same commit_entry j u (over_same commit_entry j u refl refl
      (λ l. refl) refl refl (λ l h. refl)) (granted_same commit_entry j u.action refl)

  commit_begins : (c : ℕ) (d : Branch) → attempt (commit_entry ∷ j) c d ≡ attempt j c d
  commit_begins c d = attempt_other commit_entry j c d refl

  done_is : (h : CommitEnd) → queue-entries.is_done h ≡ race-stands.is_done h
  done_is commit.Done = refl
  done_is (commit.PlaceFault k) = refl

  module _ (stays : WantedStays p j commit_entry) (won : queue-entries.WonFiles j a b) where
    won_by_this : race-entries.WonBy j a b
    won_by_this = record {
      winner = ap race-stands.branch_in won.winner;
      uncommitted = won.uncommitted;
    }

    pub commit_stands : Stands p seats (noted_after (committed_with s a how) lane
        (call.Committed a b how) reply.Noted) (commit_entry ∷ j)
    unfolding halted
    commit_stands = record {
      plan = st.plan;
      sound = st.sound;
      lawful = (st.lawful, record { scripted = may.scripted; told = refl; kept = refl });
      seated = (st.seated, may.berth);
      few = st.few;
      pool = aside_kept p seats s.pool j commit_entry st.pool refl []
          (faults_unbind p j commit_entry refl refl stays [] (record { each = λ l u was. refl }));
      requests = asks.others p s.requests j commit_entry st.requests refl refl;
      cancels = marks.others p s.cancels j commit_entry st.cancels refl refl refl;
      ready = subst (λ x. queue-stands.Stands p (queue.with_settled s.ready a x) (commit_entry ∷ j))
          (done_is how) (queues.committed p j lane a b how won s.ready st.ready);
      race = races.commits p s.race j lane a b how reply.Noted st.race won_by_this;
      attempts = tallies.others_count p s.attempts j commit_entry st.attempts commit_begins
          commit_ends;
      lanes = lanes_kept seats j commit_entry s.lanes st.lanes;
      greetings = quiet_greetings seats j commit_entry refl refl s.greetings st.greetings;
      last = last_kept seats j commit_entry commit_quiet s.last st.last;
      matches = matches_kept seats j commit_entry commit_spends s.matches st.matches;
      halted = st.halted;
    }
